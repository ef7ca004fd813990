use Rattle.prepared_passes.proofs.ExpandedNests.RangeNames.{range_names_are_apart}
use Rattle.prepared_passes.proofs.places.range_names_are_apart.Goals as goal

pub returns : goal.returns
returns c = range_names_are_apart
