use Rattle.std.proofs.Common.{length}
use Rattle.array_values.proofs.storage.array_places.elements.+saturated_place.Given as goal

abbrev pub decreases-saturated_place : goal.decreases-saturated_place
decreases-saturated_place l = length l.dims.now
