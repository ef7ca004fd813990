use Rattle.meaning.proofs.Numerals.{input_number, printed_number}
use Rattle.meaning.proofs.laws.numbers_in_texts.Goals as goal

pub returns-clause-input : goal.returns-clause-input
returns-clause-input c = input_number

pub returns-clause-printed : goal.returns-clause-printed
returns-clause-printed c = printed_number
