-- The first ones are the same, and the rest is still to be told.
use Rattle.std.proofs.Common.{◌≡◌, map, drop}
use Rattle.tree.specs.Plain.{expressions, subscripts}
use Rattle.tree.specs.View.{expression_of, loop_of, constructor_loops, subscript_of}
use Rattle.reductions.specs.Same.{same_each, same_loops, same_subscripts}
use Rattle.reductions.proofs.sameness.+same.Given as goal

abbrev pub invariant-same_all-loop-expr : goal.invariant-same_all-loop-expr
invariant-same_all-loop-expr l =
    same_each (expressions (map expression_of l.exprs)) (expressions (map expression_of l.others))
    ≡ same_each (expressions (map expression_of (drop l.expr-index l.expr-items))) (expressions (map expression_of l.rest))

abbrev pub invariant-same_subs-loop-sub : goal.invariant-same_subs-loop-sub
invariant-same_subs-loop-sub l =
    same_subscripts (subscripts (map subscript_of l.subs)) (subscripts (map subscript_of l.others))
    ≡ same_subscripts (subscripts (map subscript_of (drop l.sub-index l.sub-items))) (subscripts (map subscript_of l.rest))

abbrev pub invariant-same_turns-loop-turn : goal.invariant-same_turns-loop-turn
invariant-same_turns-loop-turn l =
    same_loops (constructor_loops (map loop_of l.turns)) (constructor_loops (map loop_of l.others))
    ≡ same_loops (constructor_loops (map loop_of (drop l.turn-index l.turn-items))) (constructor_loops (map loop_of l.rest))
