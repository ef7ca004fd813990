use Rattle.std.proofs.Common.{length}
use Rattle.interchange.proofs.directions.+begins_at.Given as goal

abbrev pub decreases-begins_at : goal.decreases-begins_at
decreases-begins_at l = length l.order.now
