use Rattle.std.proofs.Common.{◌≡◌, map, drop}
use Rattle.tree.specs.Plain.{expressions, subscripts}
use Rattle.tree.specs.View.{declaration_of, expression_of, subscript_of}
use Rattle.meaning.specs.Value.{are_scalar, are_indices}
use Rattle.reductions.specs.Finding.{bounds_by}
use Rattle.reductions.proofs.scalars.+scalars.Given as goal

abbrev pub invariant-are_scalars-loop-expr : goal.invariant-are_scalars-loop-expr
invariant-are_scalars-loop-expr l =
    are_scalar (expressions (map expression_of l.exprs)) (bounds_by (map declaration_of l.decls))
    ≡ are_scalar (expressions (map expression_of (drop l.expr-index l.expr-items))) (bounds_by (map declaration_of l.decls))

abbrev pub invariant-are_indices-loop-sub : goal.invariant-are_indices-loop-sub
invariant-are_indices-loop-sub l =
    are_indices (subscripts (map subscript_of l.subs)) (bounds_by (map declaration_of l.decls))
    ≡ are_indices (subscripts (map subscript_of (drop l.sub-index l.sub-items))) (bounds_by (map declaration_of l.decls))
