use Rattle.std.proofs.Common.{length}
use Rattle.scalar_expand.proofs.extents.+are_sizes_within.Given as goal

abbrev pub decreases-are_sizes_within : goal.decreases-are_sizes_within
decreases-are_sizes_within l = length l.trips.now
