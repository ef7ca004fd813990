use Rattle.meaning.proofs.Widths.{program_widens, same_value}
use Rattle.meaning.proofs.laws.wider_integers.Goals as goal

pub returns-clause-program : goal.returns-clause-program
returns-clause-program c = λ d e p l h. program_widens d e l p h

pub returns-clause-value : goal.returns-clause-value
returns-clause-value c = same_value
