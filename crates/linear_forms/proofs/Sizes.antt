-- How large the number of a linear form is.
use Rattle.std.proofs.Common.{◌≡◌, refl, sym, ap, ◌∙◌, subst, ℕ, zero, suc, ◌+◌, ◌*◌, ◌^◌, ◌≤◌, ◌<◌, ℤ, pos, negsuc, ◌+ℤ◌, ◌*ℤ◌, Bool, true, false, cond, ◌&&◌, List, [], ◌∷◌, drop, arith}
use Rattle.std.specs.Prelude.{nat_abs, nat_le}
use Rattle.std.specs.Ordering.{int_eq}
use Rattle.std.proofs.lemmas.Bool.{leb-true}
use Rattle.std.proofs.lemmas.Bool.Decides.{Decides-ltb, Decides-int_eq}
use Rattle.std.proofs.lemmas.Int.{ints, unsigned_abs-mul}
use Rattle.std.proofs.Math.IntN.{zero-*ℤ, +ℤ_idl}
use Rattle.std.proofs.Math.Nat.{mul-le-mul_left, mul-le-mul_right}
use Rattle.std.proofs.Math.Nat.{suc-mul}
use Rattle.tree.specs.Operators.{fits}
use Rattle.linear_forms.specs.Laws.{AreSized}
use Rattle.linear_forms.specs.Linear.{Form, weighted, number_at, is_small, all_small, not_zero, is_limited}

pub abs-sum : (a b : ℤ) → nat_abs (a +ℤ b) ≤ nat_abs a + nat_abs b
abs-sum (pos m) (pos n) = omega (arith, ints)
abs-sum (pos m) (negsuc n) = omega (arith, ints)
abs-sum (negsuc m) (pos n) = omega (arith, ints)
abs-sum (negsuc m) (negsuc n) = omega (arith, ints)

pub abs-product : (a b : ℤ) → nat_abs (a *ℤ b) ≡ nat_abs a * nat_abs b
abs-product a b = unsigned_abs-mul a b

pub smaller : (a b c d : ℕ) → a ≤ b → c ≤ d → a * c ≤ b * d
smaller a b c d h k =
    let left : a * c ≤ a * d = mul-le-mul_left a k in
    let right : a * d ≤ b * d = mul-le-mul_right d h in
    omega (arith, left, right)

pub both : (a b : Bool) → (a && b) ≡ true → (a ≡ true) × (b ≡ true)
both true b h = (refl, h)
both false b h = cc

pub weighted-size : (cs xs : List ℤ) → all_small cs ≡ true → AreSized xs → nat_abs (weighted cs xs) ≤ not_zero cs * (2 ^ 40 * 2 ^ 63)
weighted-size [] xs h k = omega arith
weighted-size (c ∷ cs) [] h k = omega arith
weighted-size (c ∷ cs) (x ∷ xs) h k = by (int_eq c (pos 0)) refl
    (weighted-size cs xs (both (is_small c) (all_small cs) h).1 k.1)
  where
    by : (b : Bool) → int_eq c (pos 0) ≡ b → nat_abs (weighted cs xs) ≤ not_zero cs * (2 ^ 40 * 2 ^ 63)
        → nat_abs (c *ℤ x +ℤ weighted cs xs) ≤ cond b (not_zero cs) (suc (not_zero cs)) * (2 ^ 40 * 2 ^ 63)
    by true e more =
        let none : c ≡ pos 0 = (Decides-int_eq c (pos 0)).0 e in
        let same : c *ℤ x +ℤ weighted cs xs ≡ weighted cs xs = ap (λ c. c *ℤ x +ℤ weighted cs xs) none ∙ (ap (λ z. z +ℤ weighted cs xs) (zero-*ℤ x) ∙ +ℤ_idl (weighted cs xs)) in
        subst (λ z. nat_abs z ≤ not_zero cs * (2 ^ 40 * 2 ^ 63)) (sym same) more
    by false e more =
        let part : nat_abs (c *ℤ x) ≤ 2 ^ 40 * 2 ^ 63 = subst (λ z. z ≤ 2 ^ 40 * 2 ^ 63) (sym (abs-product c x)) (smaller (nat_abs c) (2 ^ 40) (nat_abs x) (2 ^ 63) (leb-true (nat_abs c) (2 ^ 40) (both (is_small c) (all_small cs) h).0) k.0) in
        let whole = abs-sum (c *ℤ x) (weighted cs xs) in
        subst (λ z. nat_abs (c *ℤ x +ℤ weighted cs xs) ≤ z) (sym (suc-mul (not_zero cs) (2 ^ 40 * 2 ^ 63))) (omega (arith, part, whole, more))

pub dropped : (n : ℕ) (cs : List ℤ) → not_zero cs ≤ n + not_zero (drop n cs)
dropped zero cs = omega arith
dropped (suc n) [] = omega arith
dropped (suc n) (c ∷ cs) = by (int_eq c (pos 0)) (dropped n cs)
  where
    by : (b : Bool) → not_zero cs ≤ n + not_zero (drop n cs) → cond b (not_zero cs) (suc (not_zero cs)) ≤ suc n + not_zero (drop n cs)
    by true h = omega (arith, h)
    by false h = omega (arith, h)

pub within_fits : (z : ℤ) → nat_abs z < 2 ^ 127 → fits 127 z ≡ true
within_fits (pos k) h = (Decides-ltb k (2 ^ 127)).1 h
within_fits (negsuc k) h = (Decides-ltb k (2 ^ 127)).1 (omega (arith, h))

-- a form within its limits is a number of 128 bits, where the names have numbers of 64 bits
pub limited_fits : (loops : ℕ) (f : Form) (xs : List ℤ) → loops ≤ 7 → is_limited loops f ≡ true → AreSized xs → fits 127 (number_at f xs) ≡ true
limited_fits loops f xs few h k =
    let parts = both (all_small f.coefficients) (is_small f.constant && nat_le (not_zero (drop loops f.coefficients)) 8) h in
    let more = both (is_small f.constant) (nat_le (not_zero (drop loops f.coefficients)) 8) parts.1 in
    let count : not_zero f.coefficients ≤ 15 =
    let all = dropped loops f.coefficients in let eight = leb-true (not_zero (drop loops f.coefficients)) 8 more.1 in omega (arith, all, eight, few) in
    let terms = weighted-size f.coefficients xs parts.0 k in
    let most : not_zero f.coefficients * (2 ^ 40 * 2 ^ 63) ≤ 15 * (2 ^ 40 * 2 ^ 63) = mul-le-mul_right (2 ^ 40 * 2 ^ 63) count in
    let constant = leb-true (nat_abs f.constant) (2 ^ 40) more.0 in
    let whole = abs-sum (weighted f.coefficients xs) f.constant in
    within_fits (number_at f xs) (omega (arith, terms, most, constant, whole))
