-- The places so far are settled.
use Rattle.std.proofs.Common.{◌≡◌, length}
use Rattle.std.specs.List.{fold, range_with_len}
use Rattle.interchange.specs.Orders.{settled_at_place}
use Rattle.interchange.proofs.orders.Known.order.Given as goal

abbrev pub invariant-loop-place : goal.invariant-loop-place
invariant-loop-place l = record {
  settled : l.order.items ≡ fold (settled_at_place l.self.trips.now l.self.spans.now l.self.vectors.now) (range_with_len 0 l.count) (range_with_len 0 l.place);
  size : length l.order.items ≡ l.count;
}
