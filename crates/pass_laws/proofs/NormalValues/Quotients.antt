-- The quotient that is a trip, and the number of turns that it gives.
use Rattle.std.proofs.Common.{◌≡◌, refl, sym, ap, ◌∙◌, subst, ℕ, suc, ◌+◌, ◌^◌, ◌≤◌, ◌<◌, ℤ, pos, negsuc, neg_ℤ, ◌+ℤ◌}
use Rattle.std.proofs.Common.{◌-ℤ◌, ◌*ℤ◌, Bool, true, false, cond, Ok, Err, arith}
use Rattle.std.specs.Prelude.{nat_abs, int_div}
use Rattle.std.specs.Ordering.{int_eq}
use Rattle.std.proofs.lemmas.Bool.{le-ltb}
use Rattle.std.proofs.lemmas.Bool.Decides.{Decides-int_eq}
use Rattle.std.proofs.lemmas.Int.{ints}
use Rattle.std.proofs.Math.Nat.{div-one}
use Rattle.tree.specs.Operators.{apply, ranged}
use Rattle.tree.specs.Steps.{◌>>=◌}
use Rattle.tree.specs.declared.ops.Fault.TheVariants.{Overflow, ZeroDivide}
use Rattle.tree.specs.declared.ops.Op.TheVariants.{Div}
use Rattle.tree.specs.declared.ops.Value.TheVariants.{Int}
use Rattle.tree.specs.Plain.{Expression, Number, Binary}
use Rattle.meaning.specs.Dialect.{Dialect}
use Rattle.meaning.specs.Store.{Store}
use Rattle.meaning.specs.Value.{value_of, trip_count}
use Rattle.linear_forms.proofs.Sizes.{abs-sum, within_fits}
use Rattle.nest_order.proofs.runs.Ending.{turns_to, count_from_one}
use Rattle.last_values.specs.normal_forms.NormalLoops.{sign_of}
use Rattle.last_values.specs.normal_forms.Texts.{quotient_text}
use Rattle.pass_laws.proofs.NormalLoop.Trips.{same_trip, downward}
use Rattle.pass_laws.proofs.NormalValues.Forms.{quotient_size}

pub by_one : (z : ℤ) → int_div z (pos 1) ≡ z
by_one (pos n) = ap pos (div-one n)
by_one (negsuc n) = ap (λ k. neg_ℤ (pos k)) (div-one (suc n))

-- for a negative divisor both sides are turned round
pub sign_turned : (a b d : ℤ) → int_div (sign_of d *ℤ ((b -ℤ a) +ℤ d)) (pos (nat_abs d)) ≡ int_div ((b -ℤ a) +ℤ d) d
sign_turned a b (pos m) =
    let plain : sign_of (pos m) ≡ pos 1 = ap (λ t. cond t (negsuc 0) (pos 1)) (le-ltb m 0 (omega arith)) in
    ap (λ s. int_div (s *ℤ ((b -ℤ a) +ℤ pos m)) (pos m)) plain ∙ ap (λ z. int_div z (pos m)) (once ((b -ℤ a) +ℤ pos m))
  where
    once : (z : ℤ) → pos 1 *ℤ z ≡ z
    once z = omega (arith, ints)
sign_turned a b (negsuc m) =
    ap (λ z. int_div z (pos (suc m))) (other a b (negsuc m)) ∙ downward a b (negsuc m)
  where
    other : (a b d : ℤ) → negsuc 0 *ℤ ((b -ℤ a) +ℤ d) ≡ (a -ℤ b) -ℤ d
    other a b d = omega (arith, ints)

-- as many turns from 1 by 1
pub turns_from_one : (a b d : ℤ) (k : ℕ) → nat_abs (int_div ((b -ℤ a) +ℤ d) d) < 2 ^ 126 → trip_count a b d ≡ Ok k → trip_count (pos 1) (int_div ((b -ℤ a) +ℤ d) d) (pos 1) ≡ Ok k
turns_from_one a b d k h e =
    let q = int_div ((b -ℤ a) +ℤ d) d in
    let less : nat_abs (q +ℤ negsuc 0) ≤ nat_abs q + 1 = abs-sum q (negsuc 0) in
    same_trip a b d k (within_fits q (omega (arith, h))) (within_fits (q -ℤ pos 1) (omega (arith, less, h))) e

-- at least one turn
pub turns_are : (z : ℤ) (k : ℕ) → 1 ≤ k → trip_count (pos 1) z (pos 1) ≡ Ok k → z ≡ pos k
turns_are z k h e = by z (count_from_one z k e)
  where
    by : (y : ℤ) → k ≡ turns_to y → y ≡ pos k
    by (pos n) g = ap pos (sym g)
    by (negsuc n) g = absurd (omega (arith, h, g))

-- ---- the text of a quotient

not_nought : (m : ℕ) → 1 ≤ m → int_eq (pos m) (pos 0) ≡ false
not_nought m h = by (int_eq (pos m) (pos 0)) refl
  where
    by : (b : Bool) → int_eq (pos m) (pos 0) ≡ b → b ≡ false
    by true e = let same : m ≡ 0 = ap nat_abs ((Decides-int_eq (pos m) (pos 0)).0 e) in absurd (omega (arith, same, h))
    by false e = refl

module _ (lang : Dialect) (s : Store) where
  divided : (e : Expression) (z : ℤ) (m : ℕ) → value_of lang e s ≡ Ok (Int z) → nat_abs z < 2 ^ 126 → 1 ≤ m → value_of lang (Binary Div e (Number (pos m))) s ≡ Ok (Int (int_div z (pos m)))
  divided e z m h small other =
      let size = quotient_size z m in
      ap (λ r. do x ← r; apply Div x (Int (pos m))) h
      ∙ (ap (λ b. ranged (cond b (Err ZeroDivide) (Ok (int_div z (pos m))))) (not_nought m other)
      ∙ ap (λ b. cond b (Ok (Int (int_div z (pos m)))) (Err Overflow)) (within_fits (int_div z (pos m)) (omega (arith, size, small))))

  pub quotient_value : (e : Expression) (z d : ℤ) (m : ℕ) → d ≡ pos m → 1 ≤ m → value_of lang e s ≡ Ok (Int z) → nat_abs z < 2 ^ 126 → value_of lang (quotient_text e d) s ≡ Ok (Int (int_div z d))
  quotient_value e z d m same other h small = by (int_eq d (pos 1)) refl
    where
      by : (b : Bool) → int_eq d (pos 1) ≡ b → value_of lang (cond b e (Binary Div e (Number d))) s ≡ Ok (Int (int_div z d))
      by true g = h ∙ ap (λ w. Ok (Int w)) (sym (ap (int_div z) ((Decides-int_eq d (pos 1)).0 g) ∙ by_one z))
      by false g = subst (λ c. value_of lang (Binary Div e (Number c)) s ≡ Ok (Int (int_div z c))) (sym same) (divided e z m h small other)
