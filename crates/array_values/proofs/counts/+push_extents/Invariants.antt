use Rattle.std.proofs.Common.{length}
use Rattle.array_values.proofs.counts.+push_extents.Given as goal

abbrev pub decreases-push_extents : goal.decreases-push_extents
decreases-push_extents l = length l.ranges.now
