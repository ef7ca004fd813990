use Rattle.scalar_expand.proofs.Endings.{last_values_go_on}
use Rattle.scalar_expand.proofs.laws.last_values_go_on.Goals as goal

pub returns : goal.returns
returns c = last_values_go_on
