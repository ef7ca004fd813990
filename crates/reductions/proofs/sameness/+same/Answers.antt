use Rattle.std.proofs.Common.{◌≡◌, ◌∙◌, map, arith}
use Rattle.tree.specs.Plain.{expressions, subscripts}
use Rattle.tree.specs.View.{expression_of, loop_of, constructor_loops, subscript_of}
use Rattle.reductions.specs.Same.{same_each, same_loops, same_subscripts}
use Rattle.reductions.proofs.LoopLaws.{expressions_end, loops_end, subscripts_end}
use Rattle.reductions.proofs.sameness.+same.Goals as goal

pub same_all-returns : goal.same_all-returns
same_all-returns t c =
    c.is_empty.ensures ∙ expressions_end (same_each (expressions (map expression_of c.args.exprs.now)) (expressions (map expression_of c.args.others.now)))
    c.as_slice-expr-items.result.now c.loop-expr.rest.now c.loop-expr.expr-index (omega arith) c.loop-expr.invariant

pub same_subs-returns : goal.same_subs-returns
same_subs-returns t c =
    c.is_empty.ensures ∙ subscripts_end (same_subscripts (subscripts (map subscript_of c.args.subs.now)) (subscripts (map subscript_of c.args.others.now)))
    c.as_slice-sub-items.result.now c.loop-sub.rest.now c.loop-sub.sub-index (omega arith) c.loop-sub.invariant

pub same_turns-returns : goal.same_turns-returns
same_turns-returns t c =
    c.is_empty.ensures ∙ loops_end (same_loops (constructor_loops (map loop_of c.args.turns.now)) (constructor_loops (map loop_of c.args.others.now)))
    c.as_slice-turn-items.result.now c.loop-turn.rest.now c.loop-turn.turn-index (omega arith) c.loop-turn.invariant
