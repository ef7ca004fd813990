-- Each loop so far has an end.
use Rattle.std.proofs.Common.{◌≡◌, take, true, false, ℕ}
use Rattle.std.specs.Prelude.{ℤ, pos}
use Rattle.std.specs.List.{list_all, list_any}
use Rattle.std.specs.Ordering.{int_eq}
use Rattle.dependence_graph.specs.nest_graph.Spans.{has_no_turn, is_open}
use Rattle.dependence_graph.proofs.loop_spans.trips.are_open.Given as goal

abbrev pub invariant-loop-span : goal.invariant-loop-span
invariant-loop-span l = list_any is_open (take l.span-index l.spans) ≡ false
