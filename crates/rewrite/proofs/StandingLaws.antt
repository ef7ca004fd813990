-- The names that stand in lists of expressions, of subscripts and of loops.
use Rattle.std.proofs.Common.{◌≡◌, List, [], ◌∷◌, ◌++◌, map, refl, ap, ◌∙◌, append_assoc}
use Rattle.std.specs.List.{flat_map}
use Rattle.std.proofs.lemmas.List.{append-nil}
use Rattle.tree.specs.Plain.{Expression, Subscript, subscripts, expressions}
use Rattle.tree.specs.View.{subscript_of, reference_of, constructor_loops, ConstructorLoop}
use Rattle.tree.specs.declared.exprs.Ref.{Ref, out-Ref}
use Rattle.tree.proofs.Equations.{expression_equations, reference_of-is}
use Rattle.meaning.specs.Reads.{names_in, names_in_each, names_in_subscript, names_in_subscripts, names_in_loops}
use Rattle.rewrite.specs.NamesAlong.{names_in_loop, names_in_reference}

pub each_expression : (es : List Expression) → names_in_each (expressions es) ≡ flat_map names_in es
each_expression [] = refl
each_expression (e ∷ es) = ap (λ xs. names_in e ++ xs) (each_expression es)

pub each_subscript : (ps : List Subscript) → names_in_subscripts (subscripts ps) ≡ flat_map names_in_subscript ps
each_subscript [] = refl
each_subscript (p ∷ ps) = ap (λ xs. names_in_subscript p ++ xs) (each_subscript ps)

pub each_loop : (ls : List ConstructorLoop) → names_in_loops (constructor_loops ls) ≡ flat_map names_in_loop ls
each_loop [] = refl
each_loop (l ∷ ls) = ap (λ xs. names_in_loop l ++ xs) (each_loop ls)

pub names-reference : (r : Ref) → names_in_reference (reference_of r) ≡ (out-Ref r).name ∷ flat_map names_in_subscript (map subscript_of (out-Ref r).subs)
names-reference r = ap names_in_reference (reference_of-is r) ∙ ap (λ xs. (out-Ref r).name ∷ xs) (each_subscript (map subscript_of (out-Ref r).subs))

pub ruleset standing_laws = (expression_equations, each_expression, each_subscript, each_loop, names-reference, append_assoc, append-nil)
