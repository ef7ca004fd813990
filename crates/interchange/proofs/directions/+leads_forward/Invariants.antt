use Rattle.std.proofs.Common.{length}
use Rattle.interchange.proofs.directions.+leads_forward.Given as goal

abbrev pub decreases-leads_forward : goal.decreases-leads_forward
decreases-leads_forward l = length l.order.now
