use Rattle.std.proofs.Common.{length}
use Rattle.scalar_expand.proofs.extents.+add_greatest.Given as goal

abbrev pub decreases-add_greatest : goal.decreases-add_greatest
decreases-add_greatest l = length l.extents.now
