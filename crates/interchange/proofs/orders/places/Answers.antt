use Rattle.std.proofs.Common.{◌∙◌}
use Rattle.interchange.proofs.OrderLaws.{range_push}
use Rattle.interchange.proofs.orders.places.Goals as goal

pub loop-place-preserved : goal.loop-place-preserved
loop-place-preserved c = c.in_ok-push.ensures.items ∙ range_push c.loop-place.order.items c.loop-place.place c.loop-place.invariant
