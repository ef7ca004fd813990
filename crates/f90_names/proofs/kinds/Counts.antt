-- How many parts stand in lists of trees.
use Rattle.std.proofs.Common.{◌≡◌, ℕ, suc, ◌+◌, List, [], ◌∷◌, map, length, refl, ap, ◌∙◌, arith}
use Rattle.tree.specs.Plain.{expressions, subscripts}
use Rattle.tree.specs.View.{expression_of, subscript_of, loop_of, constructor_loops}
use Rattle.tree.specs.declared.exprs.Expr.{Expr}
use Rattle.tree.specs.declared.exprs.Sub.{Sub}
use Rattle.tree.specs.declared.exprs.Turn.{Turn}
use Rattle.meaning.specs.Typed.{number_of_arguments, number_of_subscripts}
use Rattle.f90_names.specs.kinds.Found.{number_of_loops}

one_more : (n : ℕ) → 1 + n ≡ suc n
one_more n = omega arith

pub arguments_counted : (es : List Expr) → number_of_arguments (expressions (map expression_of es)) ≡ length es
arguments_counted [] = refl
arguments_counted (e ∷ es) = ap (λ n. 1 + n) (arguments_counted es) ∙ one_more (length es)

pub subscripts_counted : (ss : List Sub) → number_of_subscripts (subscripts (map subscript_of ss)) ≡ length ss
subscripts_counted [] = refl
subscripts_counted (s ∷ ss) = ap (λ n. 1 + n) (subscripts_counted ss) ∙ one_more (length ss)

pub loops_counted : (ls : List Turn) → number_of_loops (constructor_loops (map loop_of ls)) ≡ length ls
loops_counted [] = refl
loops_counted (l ∷ ls) = ap (λ n. 1 + n) (loops_counted ls) ∙ one_more (length ls)

pub ruleset counts = (arguments_counted, subscripts_counted, loops_counted)
