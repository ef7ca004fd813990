-- Operators and functions at values that they don't take.
use Rattle.std.proofs.Common.{◌≡◌, ◌∙◌, ap, refl, subst, ℤ, Bool, false, IsTrue, Result, Ok, Err, List, [], ◌∷◌, length, map, arith}
use Rattle.std.specs.List.{All}
use Rattle.std.proofs.lemmas.Bool.{le-leb}
use Rattle.std.proofs.lemmas.List.{length-map}
use Rattle.std.proofs.lemmas.List.Elements.{All-nil, All-cons}
use Rattle.tree.specs.Steps.{◌>>=◌}
use Rattle.tree.specs.Functions.{suits_number}
use Rattle.tree.specs.Operators.{apply, call, as_numbers, exact_call, ranged}
use Rattle.tree.specs.OperationFaults.{suits, number_in, IsNumber}
use Rattle.tree.proofs.Laws.{exact_of_values-numbers}
use Rattle.tree.specs.declared.ops.Op.{Op}
use Rattle.tree.specs.declared.ops.Op.TheVariants.{Neg, Not, And, Or, Eqv, Neqv}
use Rattle.tree.specs.declared.functions.Fun.{Fun}
use Rattle.tree.specs.declared.functions.Fun.TheVariants.{Abs, Mod, Max, Min}
use Rattle.tree.specs.declared.ops.Value.{Value}
use Rattle.tree.specs.declared.ops.Value.TheVariants.{Int, Truth}
use Rattle.tree.specs.declared.ops.Fault.{Fault}
use Rattle.tree.specs.declared.ops.Fault.TheVariants.{Shape}

unsuited-numbers : (o : Op) (a b : ℤ) → suits o (Int a) (Int b) ≡ false → apply o (Int a) (Int b) ≡ Err Shape
unsuited-numbers Not a b e = refl
unsuited-numbers And a b e = refl
unsuited-numbers Or a b e = refl
unsuited-numbers Eqv a b e = refl
unsuited-numbers Neqv a b e = refl
unsuited-numbers _ a b e = cc

unsuited-truths : (o : Op) (a b : Bool) → suits o (Truth a) (Truth b) ≡ false → apply o (Truth a) (Truth b) ≡ Err Shape
unsuited-truths Not a b e = cc
unsuited-truths And a b e = cc
unsuited-truths Or a b e = cc
unsuited-truths Eqv a b e = cc
unsuited-truths Neqv a b e = cc
unsuited-truths _ a b e = refl

unsuited-first : (o : Op) (a : ℤ) (b : Bool) → suits o (Int a) (Truth b) ≡ false → apply o (Int a) (Truth b) ≡ Err Shape
unsuited-first Neg a b e = cc
unsuited-first _ a b e = refl

unsuited-second : (o : Op) (a : Bool) (b : ℤ) → suits o (Truth a) (Int b) ≡ false → apply o (Truth a) (Int b) ≡ Err Shape
unsuited-second Not a b e = cc
unsuited-second _ a b e = refl

pub unsuited : (o : Op) (x y : Value) → suits o x y ≡ false → apply o x y ≡ Err Shape
unsuited o (Int a) (Int b) e = unsuited-numbers o a b e
unsuited o (Truth a) (Truth b) e = unsuited-truths o a b e
unsuited o (Int a) (Truth b) e = unsuited-first o a b e
unsuited o (Truth a) (Int b) e = unsuited-second o a b e

-- ---- functions

miscounted_call : (f : Fun) (zs : List ℤ) → ¬ IsTrue (suits_number f (length zs)) → ranged (exact_call f zs) ≡ Err Shape
miscounted_call Abs [] h = refl
miscounted_call Abs (x ∷ []) h = absurd (h refl)
miscounted_call Abs (x ∷ y ∷ more) h = refl
miscounted_call Mod [] h = refl
miscounted_call Mod (x ∷ []) h = refl
miscounted_call Mod (x ∷ y ∷ []) h = absurd (h refl)
miscounted_call Mod (x ∷ y ∷ z ∷ more) h = refl
miscounted_call Max [] h = refl
miscounted_call Max (x ∷ []) h = refl
miscounted_call Max (x ∷ y ∷ more) h = absurd (h (le-leb 2 (length (x ∷ y ∷ more)) (omega arith)))
miscounted_call Min [] h = refl
miscounted_call Min (x ∷ []) h = refl
miscounted_call Min (x ∷ y ∷ more) h = absurd (h (le-leb 2 (length (x ∷ y ∷ more)) (omega arith)))

-- too few or too many arguments
pub miscounted : (f : Fun) (vs : List Value) → All IsNumber vs → ¬ IsTrue (suits_number f (length vs)) → call f vs ≡ Err Shape
miscounted f vs numbers h =
    ap ranged (exact_of_values-numbers f vs numbers)
    ∙ miscounted_call f (map number_in vs) (λ suits. h (subst (λ n. IsTrue (suits_number f n)) (length-map vs number_in) suits))

no_numbers : (vs : List Value) → ¬ All IsNumber vs → as_numbers vs ≡ Err Shape
no_numbers [] h = absurd (h (All-nil IsNumber))
no_numbers (Truth b ∷ vs) h = refl
no_numbers (Int z ∷ vs) h =
    ap (λ (r : Result (List ℤ) Fault). r >>= (λ zs. let all : Result (List ℤ) Fault = Ok (z ∷ zs) in all)) (no_numbers vs (λ all. h (All-cons IsNumber (Int z) vs tt all)))

-- a truth value among the arguments
pub unnumbered : (f : Fun) (vs : List Value) → ¬ All IsNumber vs → call f vs ≡ Err Shape
unnumbered f vs h = ap (λ (r : Result (List ℤ) Fault). ranged (r >>= (λ zs. exact_call f zs))) (no_numbers vs h)

pub ruleset unsuited_calls = (miscounted, unnumbered)
