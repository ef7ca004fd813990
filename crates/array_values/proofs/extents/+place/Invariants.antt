use Rattle.std.proofs.Common.{length}
use Rattle.array_values.proofs.extents.+place.Given as goal

abbrev pub decreases-place : goal.decreases-place
decreases-place l = length l.extents.now
