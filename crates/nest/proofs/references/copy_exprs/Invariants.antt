-- The copies so far are those of the items so far.
use Rattle.std.proofs.Common.{◌≡◌, map, take}
use Rattle.tree.specs.View.{expression_of}
use Rattle.nest.proofs.references.copy_exprs.Given as goal

abbrev pub invariant-loop-expr : goal.invariant-loop-expr
invariant-loop-expr l = map expression_of l.copies ≡ map expression_of (take l.expr-index l.expr-items)
