use Rattle.prepared_passes.proofs.ExpandedNests.Left.{expanded_nest_has_no_private_scalars}
use Rattle.prepared_passes.proofs.expansion.expanded_nest_has_no_private_scalars.Goals as goal

pub returns : goal.returns
returns c = expanded_nest_has_no_private_scalars
