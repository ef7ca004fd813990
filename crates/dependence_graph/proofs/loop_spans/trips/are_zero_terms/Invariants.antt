-- No symbol so far has a coefficient.
use Rattle.std.proofs.Common.{◌≡◌, take, true, false, ℕ}
use Rattle.std.specs.Prelude.{ℤ, pos}
use Rattle.std.specs.List.{list_all, list_any}
use Rattle.std.specs.Ordering.{int_eq}
use Rattle.dependence_graph.proofs.loop_spans.trips.are_zero_terms.Given as goal

abbrev pub invariant-loop-times : goal.invariant-loop-times
invariant-loop-times l = list_all (λ (s : ℕ × ℤ). int_eq s.1 (pos 0)) (take l.times-index l.terms) ≡ true
