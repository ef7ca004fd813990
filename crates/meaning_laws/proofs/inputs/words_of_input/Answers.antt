use Rattle.meaning_laws.proofs.inputs.Words.{next_word_is_separated, input_ends_in_separation, second_comma_is_fault, word_is_whole}
use Rattle.meaning_laws.proofs.inputs.words_of_input.Goals as goal

pub returns-clause-next : goal.returns-clause-next
returns-clause-next c = next_word_is_separated

pub returns-clause-end : goal.returns-clause-end
returns-clause-end c = input_ends_in_separation

pub returns-clause-comma : goal.returns-clause-comma
returns-clause-comma c = second_comma_is_fault

pub returns-clause-whole : goal.returns-clause-whole
returns-clause-whole c = word_is_whole
