-- The spans so far are those of the loops so far.
use Rattle.std.proofs.Common.{◌≡◌, [], length, map, take}
use Rattle.std.specs.Prelude.{All}
use Rattle.nest.specs.View.{loop_of}
use Rattle.dependence_graph.specs.nest_graph.Spans.{spans_of}
use Rattle.dependence_graph.specs.loop_spans.Ends.{HasSmallEnd}
use Rattle.dependence_graph.specs.loop_spans.Greatest.{AreSpansOf}
use Rattle.dependence_graph.proofs.loop_spans.chains.spans_of.Given as goal

abbrev pub invariant-loop-turns : goal.invariant-loop-turns
invariant-loop-turns l = record {
  value : l.spans ≡ spans_of [] (map loop_of (take l.turns-index l.turns-items));
  spans : AreSpansOf [] (map loop_of (take l.turns-index l.turns-items)) l.spans;
  count : length l.spans ≡ l.turns-index;
  ends : All HasSmallEnd l.spans;
}
