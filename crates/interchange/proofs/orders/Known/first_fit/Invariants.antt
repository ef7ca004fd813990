-- None so far is fit.
use Rattle.std.proofs.Common.{◌≡◌, ◌≤◌, ◌+◌, ◌-◌, None}
use Rattle.std.specs.List.{find, range_with_len}
use Rattle.interchange.specs.Orders.{is_fit}
use Rattle.interchange.proofs.orders.Known.first_fit.Given as goal

abbrev pub invariant-loop-from : goal.invariant-loop-from
invariant-loop-from l = record {
  low : l.to + 1 ≤ l.from;
  none : find (is_fit l.self.trips.now l.self.spans.now l.self.vectors.now l.order l.to) (range_with_len (l.to + 1) (l.from - (l.to + 1))) ≡ None;
}
