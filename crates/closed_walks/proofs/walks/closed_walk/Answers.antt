use Rattle.std.proofs.Common.{◌∙◌, ◌+◌, None, Some, sym, subst, arith}
use Rattle.closed_walks.specs.Distances.{CanFollow, IsLeastNext, known}
use Rattle.closed_walks.proofs.Answering.{can_follow, first_distance, first_known, first_size, has_none, has_some, none_before_more, none_before_swept}
use Rattle.closed_walks.proofs.Loops.{known_most}
use Rattle.closed_walks.proofs.Theory.{chosen, no_walk, swept}
use Rattle.closed_walks.proofs.walks.closed_walk.Goals as goal

pub loop-count-init : goal.loop-count-init
loop-count-init c = record {
  size = first_size c.args.pairs.now c.args.n c.args.start c.requires.start c.in_ok-steps.steps.items c.in_ok-steps.ensures;
  distance = first_distance c.args.pairs.now c.args.n c.args.start c.requires.start c.in_ok-steps.steps.items c.in_ok-steps.ensures;
  before = λ r d i e. omega arith;
  known = let k = first_known c.args.pairs.now c.args.n c.args.start c.requires.start c.in_ok-steps.steps.items c.in_ok-steps.ensures in omega arith;
}

pub follow-requires-clause-leads : goal.follow-requires-clause-leads
follow-requires-clause-leads c =
    let q = has_some c.least_next.result (sym c.is_some.ensures ∙ c.if-is_some.true) in
    let next = subst (IsLeastNext c.args.pairs.now c.as_slice.result.now c.args.start c.loop-count.count) q.1 c.least_next.ensures in
    subst (λ z. CanFollow c.args.pairs.now z c.args.start (c.loop-count.count + 1)) (sym c.as_slice-then-is_some.ensures.value)
    (can_follow c.args.pairs.now c.args.start c.loop-count.count c.loop-count.steps.items c.loop-count.invariant.distance q.0
    (subst (λ z. IsLeastNext c.args.pairs.now z c.args.start c.loop-count.count (Some q.0)) c.as_slice.ensures.value next))

pub returns-then-is_some : goal.returns-then-is_some
returns-then-is_some c =
    chosen c.args.pairs.now c.args.start c.loop-count.count c.loop-count.steps.items c.loop-count.invariant.distance c.loop-count.invariant.before c.in_ok-walk.walk
    (subst (λ z. Rattle.closed_walks.specs.Distances.AreChosen c.args.pairs.now z c.args.start (c.loop-count.count + 1) c.in_ok-walk.walk) c.as_slice-then-is_some.ensures.value c.in_ok-walk.ensures)

pub returns-then-not-sweep : goal.returns-then-not-sweep
returns-then-not-sweep c =
    let none = subst (λ z. IsLeastNext c.args.pairs.now z c.args.start c.loop-count.count None) c.as_slice.ensures.value
    (subst (IsLeastNext c.args.pairs.now c.as_slice.result.now c.args.start c.loop-count.count) (has_none c.least_next.result (sym c.is_some.ensures ∙ c.if-is_some.false)) c.least_next.ensures) in
    let same = c.sweep.ensures.none c.if-not-sweep.true in
    no_walk c.args.pairs.now c.args.start c.loop-count.count c.loop-count.steps.items c.sweep.new.steps.items c.sweep.result c.loop-count.invariant.distance c.sweep.ensures same
    (none_before_more c.args.pairs.now c.args.start c.loop-count.count c.loop-count.steps.items c.loop-count.invariant.distance c.loop-count.invariant.before none)

pub loop-count-preserved : goal.loop-count-preserved
loop-count-preserved c =
    let none = subst (λ z. IsLeastNext c.args.pairs.now z c.args.start c.loop-count.count None) c.as_slice.ensures.value
    (subst (IsLeastNext c.args.pairs.now c.as_slice.result.now c.args.start c.loop-count.count) (has_none c.least_next.result (sym c.is_some.ensures ∙ c.if-is_some.false)) c.least_next.ensures) in
    let more = c.sweep.ensures.more c.if-not-sweep.false in
    record {
      size = c.sweep.ensures.size ∙ c.loop-count.invariant.size;
      distance = swept c.args.pairs.now c.args.start c.loop-count.count c.loop-count.steps.items c.sweep.new.steps.items c.sweep.result c.loop-count.invariant.distance c.sweep.ensures;
      before = none_before_swept c.args.pairs.now c.args.start c.loop-count.count c.loop-count.steps.items c.loop-count.invariant.distance c.sweep.new.steps.items c.sweep.result c.sweep.ensures
          (none_before_more c.args.pairs.now c.args.start c.loop-count.count c.loop-count.steps.items c.loop-count.invariant.distance c.loop-count.invariant.before none);
      known = let k = c.loop-count.invariant.known in omega arith;
    }

pub returns : goal.returns
returns c = λ others w.
    let k = c.loop-count.invariant.known in
    let m = known_most c.loop-count.steps.items in
    let s = c.loop-count.invariant.size in
    absurd (omega arith)
