-- The copies so far are those of the items so far.
use Rattle.std.proofs.Common.{◌≡◌, map, take}
use Rattle.tree.specs.View.{expression_of, subscript_of, loop_of}
use Rattle.tree.proofs.exprs.+expr_copy.Given as goal

abbrev pub invariant-Ref::copy-loop-sub : goal.invariant-Ref::copy-loop-sub
invariant-Ref::copy-loop-sub l = map subscript_of l.subs ≡ map subscript_of (take l.sub-index l.sub-items)

abbrev pub invariant-copy_all-loop-expr : goal.invariant-copy_all-loop-expr
invariant-copy_all-loop-expr l = map expression_of l.copies ≡ map expression_of (take l.expr-index l.expr-items)

abbrev pub invariant-copy_loops-loop-turn : goal.invariant-copy_loops-loop-turn
invariant-copy_loops-loop-turn l = map loop_of l.copies ≡ map loop_of (take l.turn-index l.turn-items)
