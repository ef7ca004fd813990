-- All so far are 0.
use Rattle.std.proofs.Common.{◌≡◌, take, true, false, ℕ}
use Rattle.std.specs.Prelude.{ℤ, pos}
use Rattle.std.specs.List.{list_all, list_any}
use Rattle.std.specs.Ordering.{int_eq}
use Rattle.dependence_graph.proofs.loop_spans.trips.are_zero.Given as goal

abbrev pub invariant-loop-number : goal.invariant-loop-number
invariant-loop-number l = list_all (λ a. int_eq a (pos 0)) (take l.number-index l.times) ≡ true
