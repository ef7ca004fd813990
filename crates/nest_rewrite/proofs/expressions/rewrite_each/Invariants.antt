use Rattle.std.proofs.Common.{◌≡◌, map, take}
use Rattle.tree.specs.View.{expression_of}
use Rattle.rewrite.specs.Making as making
use Rattle.nest_rewrite.proofs.expressions.rewrite_each.Given as goal

abbrev pub invariant-loop-expr : goal.invariant-loop-expr
invariant-loop-expr g l =
    let makes = g.R.Rule.making in
    record {
      made : map expression_of l.made ≡ map (making.made (makes l.fn.rule)) (map expression_of (take l.expr-index l.expr-items));
      same : makes l.rule ≡ makes l.fn.rule;
    }
