use Rattle.std.specs.List.{range_with_len}
use Rattle.interchange.proofs.OrderLaws.{settled_more, settled_size}
use Rattle.interchange.proofs.orders.Known.order.Goals as goal

pub loop-place-preserved : goal.loop-place-preserved
loop-place-preserved c = record {
  settled = settled_more c.args.self.now.trips.now c.args.self.now.spans.now c.args.self.now.vectors.now c.loop-place.order.items c.in_ok-order-2.order.items (range_with_len 0 c.args.count) c.loop-place.place
      c.loop-place.invariant.settled c.in_ok-order-2.ensures;
  size = settled_size c.args.self.now.trips.now c.args.self.now.spans.now c.args.self.now.vectors.now c.loop-place.order.items c.in_ok-order-2.order.items c.loop-place.place c.args.count
      c.loop-place.invariant.size c.in_ok-order-2.ensures;
}
