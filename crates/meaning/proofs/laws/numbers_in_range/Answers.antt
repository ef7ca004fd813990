use Rattle.meaning.proofs.Fitting.{values_fit}
use Rattle.meaning.proofs.laws.numbers_in_range.Goals as goal

pub returns-clause-values : goal.returns-clause-values
returns-clause-values c = values_fit
