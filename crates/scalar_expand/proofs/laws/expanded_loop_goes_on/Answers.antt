use Rattle.scalar_expand.proofs.Theorems.{expanded_loop_goes_on}
use Rattle.scalar_expand.proofs.laws.expanded_loop_goes_on.Goals as goal

pub returns : goal.returns
returns c = expanded_loop_goes_on
