-- What is gathered one at a time is the reduction of all.
use Rattle.std.proofs.Common.{◌≡◌, ◌∙◌, ap, refl, ℕ, ◌^◌, ◌<◌, ◌≤◌, ℤ, pos, ◌+ℤ◌, Bool, true, false, cond, List, [], ◌∷◌, Result, Ok, Err, arith}
use Rattle.std.specs.Prelude.{FitsSigned}
use Rattle.std.specs.Int.{int_max, int_min, w128}
use Rattle.std.specs.List.{fold}
use Rattle.std.proofs.Math.Nat.{pow-le-pow_right}
use Rattle.tree.specs.Operators.{fits, reduced, sum_from}
use Rattle.tree.specs.declared.ops.Value.{Value}
use Rattle.tree.specs.declared.ops.Value.TheVariants.{Int}
use Rattle.tree.specs.declared.ops.Fault.{Fault}
use Rattle.tree.specs.declared.ops.Fault.TheVariants as fault
use Rattle.tree.specs.declared.functions.Red.{Red}
use Rattle.tree.specs.declared.functions.Red.TheVariants.{Sum, MaxVal, MinVal}
use Rattle.tree.specs.declared.gathered.Gathered.{Gathered}
use Rattle.tree.specs.declared.gathered.Gathered.TheVariants.{Number, Overflow}
use Rattle.tree.specs.Gathered.{held, added, gathered, whole}

lost : (r : Red) (zs : List ℤ) → fold (added r) Overflow zs ≡ Overflow
lost r [] = refl
lost r (z ∷ zs) = lost r zs

greatest : (m : ℤ) (zs : List ℤ) → fold (added MaxVal) (Number m) zs ≡ Number (fold int_max m zs)
greatest m [] = refl
greatest m (z ∷ zs) = greatest (int_max m z) zs

least : (m : ℤ) (zs : List ℤ) → fold (added MinVal) (Number m) zs ≡ Number (fold int_min m zs)
least m [] = refl
least m (z ∷ zs) = least (int_min m z) zs

module _ (bits : ℕ) where
  step : (s : ℤ) (zs : List ℤ) (b : Bool) → fits 127 s ≡ b → (fits 127 s ≡ true → whole bits Sum (fold (added Sum) (Number s) zs) ≡ sum_from s zs)
      → whole bits Sum (fold (added Sum) (held (cond b (Ok (Int s)) (Err fault.Overflow))) zs) ≡ cond b (sum_from s zs) (Err fault.Overflow)
  step s zs true e h = h e
  step s zs false e h = ap (whole bits Sum) (lost Sum zs)

  summed : (m : ℤ) (zs : List ℤ) → fits 127 m ≡ true → whole bits Sum (fold (added Sum) (Number m) zs) ≡ sum_from m zs
  summed m [] e = ap (λ b. let r : Result Value Fault = cond b (Ok (Int m)) (Err fault.Overflow) in r) e
  summed m (z ∷ zs) e = step (m +ℤ z) zs (fits 127 (m +ℤ z)) refl (summed (m +ℤ z) zs)

  whole-reduced : (r : Red) (zs : List ℤ) → whole bits r (gathered r zs) ≡ reduced bits r zs
  whole-reduced Sum [] = refl
  whole-reduced Sum (z ∷ zs) = step (pos 0 +ℤ z) zs (fits 127 (pos 0 +ℤ z)) refl (summed (pos 0 +ℤ z) zs)
  whole-reduced MaxVal [] = refl
  whole-reduced MaxVal (z ∷ zs) = ap (whole bits MaxVal) (greatest z zs)
  whole-reduced MinVal [] = refl
  whole-reduced MinVal (z ∷ zs) = ap (whole bits MinVal) (least z zs)

-- of what is told to be gathered of these numbers
pub whole-of : (bits : ℕ) (r : Red) (g : Gathered) (zs : List ℤ) → g ≡ gathered r zs → whole bits r g ≡ reduced bits r zs
whole-of bits r g zs e = ap (whole bits r) e ∙ whole-reduced bits r zs

pub ruleset reductions = (whole-of)

-- 2 to the power of fewer than 127 bits is within 128 bits
pub power_of_two-fits : (b : ℕ) → b < 127 → FitsSigned w128 (pos (2 ^ b))
power_of_two-fits b h =
    let two : 1 ≤ 2 = omega arith in
    let most_bits : b ≤ 126 = omega arith in
    let most : 2 ^ b ≤ 2 ^ 126 = pow-le-pow_right two most_bits in
    record { sfits = omega arith }

pub ruleset powers_of_two = (power_of_two-fits)
