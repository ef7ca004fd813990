use Rattle.std.proofs.Common.{length}
use Rattle.scalar_expand.proofs.extents.+extents_under.Given as goal

abbrev pub decreases-extents_under : goal.decreases-extents_under
decreases-extents_under l = length l.trips.now
