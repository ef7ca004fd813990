use Rattle.std.proofs.Common.{refl, arith}
use Rattle.std.specs.Prelude.{slice_index}
use Rattle.interchange.proofs.OrderLaws.{changed_more}
use Rattle.interchange.proofs.orders.is_changed.Goals as goal

pub loop-place-preserved : goal.loop-place-preserved
loop-place-preserved c =
    changed_more c.args.order.now c.loop-place.place (slice_index c.args.order.now c.loop-place.place) refl (omega (arith, c.if-order-place.false)) c.loop-place.invariant
