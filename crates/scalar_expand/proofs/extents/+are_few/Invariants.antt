use Rattle.std.proofs.Common.{length}
use Rattle.scalar_expand.proofs.extents.+are_few.Given as goal

abbrev pub decreases-are_few : goal.decreases-are_few
decreases-are_few l = length l.extents.now
