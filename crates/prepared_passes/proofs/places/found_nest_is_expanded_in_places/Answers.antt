use Rattle.prepared_passes.proofs.ExpandedNests.Found.{found_nest_is_expanded_in_places}
use Rattle.prepared_passes.proofs.places.found_nest_is_expanded_in_places.Goals as goal

pub returns : goal.returns
returns c = found_nest_is_expanded_in_places
