use Rattle.std.proofs.Common.{length}
use Rattle.array_values.proofs.storage.array_places.elements.+saturated_elements.Given as goal

abbrev pub decreases-saturated_elements : goal.decreases-saturated_elements
decreases-saturated_elements l = length l.dims.now
