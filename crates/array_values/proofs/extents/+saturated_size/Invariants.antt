use Rattle.std.proofs.Common.{length}
use Rattle.array_values.proofs.extents.+saturated_size.Given as goal

abbrev pub decreases-saturated_size : goal.decreases-saturated_size
decreases-saturated_size l = length l.extents.now
