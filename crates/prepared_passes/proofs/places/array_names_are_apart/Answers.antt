use Rattle.prepared_passes.proofs.ExpandedNests.ArrayNames.{array_names_are_apart}
use Rattle.prepared_passes.proofs.places.array_names_are_apart.Goals as goal

pub returns : goal.returns
returns c = array_names_are_apart
