-- Those so far stand in their places.
use Rattle.std.proofs.Common.{◌≡◌, ◌==◌, false, not}
use Rattle.std.specs.Prelude.{slice_index}
use Rattle.std.specs.List.{list_any, range_with_len}
use Rattle.interchange.proofs.orders.is_changed.Given as goal

abbrev pub invariant-loop-place : goal.invariant-loop-place
invariant-loop-place l = list_any (λ p. not (slice_index l.order p == p)) (range_with_len 0 l.place) ≡ false
