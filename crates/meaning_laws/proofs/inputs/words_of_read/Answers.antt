use Rattle.meaning_laws.proofs.inputs.ReadStatements.{first_word_of_read, read_takes_word}
use Rattle.meaning_laws.proofs.inputs.words_of_read.Goals as goal

pub returns-clause-begins : goal.returns-clause-begins
returns-clause-begins c = first_word_of_read

pub returns-clause-takes : goal.returns-clause-takes
returns-clause-takes c = read_takes_word
