use Rattle.std.proofs.lemmas.Int.{ints}
use Rattle.std.proofs.Common.{arith, ◌≡◌, ap, ◌∙◌, List, ℕ, pos, to_z, of_z}
use Rattle.std.proofs.lemmas.Int.{to_z-of_z}
use Rattle.std.specs.Prelude.{min}
use mir.Syntax.{w128}
use Rattle.tree.specs.Limits.{greatest_literal}
use Rattle.f90_grammar.specs.Phrases.{value_of_digits}
use Rattle.f90_trees.proofs.BuildLaws.{number_is, truth_is, built_of}
use Rattle.f90_trees.proofs.building.build.Goals as goal

pub returns-in_ok-put-in-Digits : goal.returns-in_ok-put-in-Digits
returns-in_ok-put-in-Digits c =
    let r = c.number.ensures ∙ ap (λ (t : List ℕ). pos (min (value_of_digits t) greatest_literal)) c.as_slice.ensures in
    let z : to_z w128 (of_z w128 c.number.result) ≡ c.number.result = first_of (omega (arith, ints), grind (arith, to_z-of_z)) in
    built_of c.args.functions.now _ _ _ _ c.in-Digits.is (number_is _ _ _ _ (z ∙ r) c.in_ok-put-in-Digits.ensures)

pub returns-in_ok-put-in-Truth : goal.returns-in_ok-put-in-Truth
returns-in_ok-put-in-Truth c = built_of c.args.functions.now _ _ _ _ c.in-Truth.is (truth_is _ _ _ c.in_ok-put-in-Truth.ensures)
