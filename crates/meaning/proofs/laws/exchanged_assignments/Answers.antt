use Rattle.meaning.proofs.Exchanges.{exchanged}
use Rattle.meaning.proofs.laws.exchanged_assignments.Goals as goal

pub returns : goal.returns
returns c = exchanged
