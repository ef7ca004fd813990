use Rattle.std.proofs.Common.{sym, subst, ◌∙◌, List, ℕ}
use Rattle.nest.specs.View.{loop_of, nest_of}
use Rattle.index_split.specs.Answers.{AreUsed, IsCutAs}
use Rattle.index_split.proofs.AnswerLaws.{cut, if_ok, not_considered, unused, without_loop}
use Rattle.index_split.proofs.CoupleLaws.{isnt}
use Rattle.index_split.proofs.answers.nest_answer.Goals as goal

pub returns-then-not-are_used : goal.returns-then-not-are_used
returns-then-not-are_used c =
    unused (nest_of c.args.nest.now) (nest_of c.args.normal.now) c.in_ok-points.points c.in_ok-points.ensures
    (λ h. isnt c.are_used.result _ c.are_used.ensures.1 c.if-not-are_used.true (subst AreUsed (sym c.as_slice.ensures) h))

pub returns-in-None : goal.returns-in-None
returns-in-None c =
    not_considered (nest_of c.args.nest.now) (nest_of c.args.normal.now) c.in_ok-points.points c.in_ok-points.ensures
    (subst AreUsed c.as_slice.ensures (c.are_used.ensures.0 c.if-not-are_used.false)) c.in-None.ensures

pub returns-in-None-outermost : goal.returns-in-None-outermost
returns-in-None-outermost c =
    without_loop (nest_of c.args.nest.now) (nest_of c.args.normal.now) c.in_ok-points.points c.in_ok-points.ensures
    (subst AreUsed c.as_slice.ensures (c.are_used.ensures.0 c.if-not-are_used.false)) c.in-None-outermost.ensures

pub returns : goal.returns
returns c =
    if_ok _ _ c.cut_by.result
    (λ a h. cut (nest_of c.args.nest.now) (nest_of c.args.normal.now) c.in_ok-points.points c.in_ok-points.ensures
    (subst AreUsed c.as_slice.ensures (c.are_used.ensures.0 c.if-not-are_used.false)) c.in-Some.trip (loop_of c.in-Some-outermost.turns.now) a
    c.in-Some.ensures c.in-Some-outermost.ensures
    (subst (λ (es : List ℕ). IsCutAs (nest_of c.args.nest.now) (loop_of c.in-Some-outermost.turns.now) es a)
    (c.as_slice-in-Some-outermost.ensures ∙ c.in_ok-push-in-Some-outermost.ensures.ok) h))
    c.cut_by.ensures
