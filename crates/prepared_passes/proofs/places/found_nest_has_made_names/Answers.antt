use Rattle.prepared_passes.proofs.ExpandedNests.FoundExpanded.{found_nest_has_made_names}
use Rattle.prepared_passes.proofs.places.found_nest_has_made_names.Goals as goal

pub returns : goal.returns
returns c = found_nest_has_made_names
