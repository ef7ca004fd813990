-- What was made so far is what is made of the nodes so far, and the rule makes what it made.
use Rattle.std.proofs.Common.{◌≡◌, map, take}
use Rattle.tree.specs.View.{expression_of, subscript_of, loop_of}
use Rattle.rewrite.specs.Making as making
use Rattle.rewrite.specs.MadeBlocks as made_blocks
use Rattle.rewrite.proofs.expressions.+rewriting.Given as goal

abbrev pub invariant-rewrite_all-loop-expr : goal.invariant-rewrite_all-loop-expr
invariant-rewrite_all-loop-expr g l =
    let makes = g.R.NodeRule.making in
    record {
      made : map expression_of l.made ≡ map (making.made (makes l.fn.rule)) (map expression_of (take l.expr-index l.expr-items));
      same : makes l.rule ≡ makes l.fn.rule;
    }

abbrev pub invariant-rewrite_turns-loop-turn : goal.invariant-rewrite_turns-loop-turn
invariant-rewrite_turns-loop-turn g l =
    let makes = g.R.NodeRule.making in
    record {
      made : map loop_of l.made ≡ map (made_blocks.made_loop (makes l.fn.rule)) (map loop_of (take l.turn-index l.turn-items));
      same : makes l.rule ≡ makes l.fn.rule;
    }

abbrev pub invariant-rewrite_subscripts-loop-sub : goal.invariant-rewrite_subscripts-loop-sub
invariant-rewrite_subscripts-loop-sub g l =
    let makes = g.R.NodeRule.making in
    record {
      made : map subscript_of l.made ≡ map (making.made_subscript (makes l.fn.rule)) (map subscript_of (take l.sub-index l.sub-items));
      same : makes l.rule ≡ makes l.fn.rule;
    }
