-- The plain tree of a name with its list.
use Rattle.std.proofs.Common.{◌≡◌, ℕ, List, [], ◌∷◌, ◌++◌, map, rules, ap, ◌∙◌}
use Rattle.tree.specs.declared.exprs.Expr.{the_lemmas}
use Rattle.tree.specs.declared.exprs.Expr.TheVariants as exprs
use Rattle.tree.specs.declared.exprs.Sub.{Sub}
use Rattle.tree.specs.declared.exprs.Ref.{roll-Ref}
use Rattle.tree.specs.declared.exprs.Expr.{Expr}
use Rattle.tree.specs.declared.exprs.Sub.TheVariants as subs_
use Rattle.tree.specs.Plain.{Named, subscripts, Subscript, Only}
use Rattle.tree.proofs.Equations.{expression_of-int, expression_of-truth, subscript_of-one}
use Rattle.std.proofs.lemmas.List.{map_push}
use Rattle.f77_expressions.specs.Views.{subscripts_of}
use Rattle.tree.specs.View.{expression_of, subscript_of, reference_of}

pub expression_of-named : (x : List ℕ) (subs : List Sub) → expression_of (exprs.Item (roll-Ref (record { name = x; subs = subs }))) ≡ Named x (subscripts (map subscript_of subs))
unfolding expression_of reference_of subscript_of
expression_of-named x subs = search (rules, the_lemmas)

pub ruleset names = (expression_of-named)

pub ruleset primaries = (expression_of-int, expression_of-truth, expression_of-named)

pub subscripts_of_push : (subs : List Sub) (e : Expr) → subscripts_of (subs ++ subs_.One e ∷ []) ≡ subscripts_of subs ++ Only (expression_of e) ∷ []
subscripts_of_push subs e = map_push subscript_of subs (subs_.One e) ∙ ap (λ (s : Subscript). subscripts_of subs ++ s ∷ []) (subscript_of-one e)

pub ruleset lists = (subscripts_of_push)
