use Rattle.std.proofs.Common.{◌≡◌, ◌+◌, [], ◌∷◌, ◌++◌, List, length, map, take, arith, subst, sym, ap, ◌∙◌}
use Rattle.std.proofs.lemmas.List.{length-append}
use Rattle.std.proofs.lemmas.List.Elements.{All-push, All-same}
use Rattle.subscripts.specs.declared.affine.Span.{Span}
use Rattle.nest.specs.declared.parts.Loop.{Loop}
use Rattle.nest.specs.View.{loop_of}
use Rattle.dependence_graph.specs.nest_graph.Ready.{HaveTrips}
use Rattle.dependence_graph.specs.nest_graph.Spans.{span_of}
use Rattle.dependence_graph.specs.loop_spans.Ends.{HasSmallEnd}
use Rattle.dependence_graph.specs.loop_spans.Greatest.{AreSpansOf, IsSpanOf}
use Rattle.dependence_graph.proofs.loop_spans.ChainLaws.{spans_more, trip_here, value_more}
use Rattle.dependence_graph.proofs.loop_spans.chains.spans_of.Goals as goal

pub span_of-span-requires-clause-trip : goal.span_of-span-requires-clause-trip
span_of-span-requires-clause-trip c =
    let trips = subst (λ (xs : List Loop). HaveTrips 0 (map loop_of xs)) (sym c.as_slice-turns-items.ensures) c.requires.trips in
    trip_here c.as_slice-turns-items.result.now c.loop-turns.turns-index (length c.as_slice.result.now) c.turns-item.result trips (omega arith) c.turns-item.is
    (ap length c.as_slice.ensures ∙ c.loop-turns.invariant.count)

pub loop-turns-preserved : goal.loop-turns-preserved
loop-turns-preserved c =
    let i = c.loop-turns.turns-index in let span = c.span_of-span.result in
    let pushed : c.push.new.self ≡ c.loop-turns.spans ++ span ∷ [] = c.in_ok-push.ensures.ok in
    let inner : IsSpanOf c.loop-turns.spans c.turns-item.result.trip span =
    subst (λ (o : List Span). IsSpanOf o c.turns-item.result.trip span) c.as_slice.ensures c.span_of-span.ensures.span in
    let value : span ≡ span_of c.loop-turns.spans c.turns-item.result.trip =
    c.span_of-span.ensures.value ∙ ap (λ (o : List Span). span_of o c.turns-item.result.trip) c.as_slice.ensures in
    record {
      value = pushed ∙ value_more c.as_slice-turns-items.result.now i c.turns-item.result c.loop-turns.spans span (omega arith) c.turns-item.is c.loop-turns.invariant.value value;
      spans = subst (λ (ss : List Span). AreSpansOf [] (map loop_of (take (i + 1) c.as_slice-turns-items.result.now)) ss) (sym pushed)
          (spans_more c.as_slice-turns-items.result.now i c.turns-item.result c.loop-turns.spans span (omega arith) c.turns-item.is c.loop-turns.invariant.spans inner);
      count = ap length pushed ∙ length-append c.loop-turns.spans (span ∷ []) ∙ ap (λ n. n + 1) c.loop-turns.invariant.count;
      ends = All-same HasSmallEnd c.push.new.self (c.loop-turns.spans ++ span ∷ []) pushed (All-push HasSmallEnd c.loop-turns.spans span c.loop-turns.invariant.ends c.span_of-span.ensures.end);
    }
