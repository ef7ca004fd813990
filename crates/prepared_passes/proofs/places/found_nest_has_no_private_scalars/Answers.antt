use Rattle.prepared_passes.proofs.ExpandedNests.FoundExpanded.{found_nest_has_no_private_scalars}
use Rattle.prepared_passes.proofs.places.found_nest_has_no_private_scalars.Goals as goal

pub returns : goal.returns
returns c = found_nest_has_no_private_scalars
