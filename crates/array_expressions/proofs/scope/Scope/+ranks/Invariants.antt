use Rattle.std.proofs.Common.{◌≡◌, map, drop}
use Rattle.tree.specs.Plain.{expressions, subscripts}
use Rattle.tree.specs.View.{expression_of, subscript_of}
use Rattle.meaning.specs.Value.{are_scalar, are_indices}
use Rattle.array_expressions.specs.Scopes.{bounds_at}
use Rattle.array_expressions.proofs.scope.Scope.+ranks.Given as goal

abbrev pub invariant-are_scalars-loop-expr : goal.invariant-are_scalars-loop-expr
invariant-are_scalars-loop-expr l =
    are_scalar (expressions (map expression_of l.exprs)) (bounds_at l.self) ≡ are_scalar (expressions (map expression_of (drop l.expr-index l.expr-items))) (bounds_at l.self)

abbrev pub invariant-are_indices-loop-sub : goal.invariant-are_indices-loop-sub
invariant-are_indices-loop-sub l =
    are_indices (subscripts (map subscript_of l.subs)) (bounds_at l.self) ≡ are_indices (subscripts (map subscript_of (drop l.sub-index l.sub-items))) (bounds_at l.self)
