-- Loops from 1 by 1 that have as many turns.
use Rattle.std.proofs.Common.{◌≡◌, refl, sym, ap, ◌∙◌, ℕ, zero, suc, ℤ, pos, negsuc, ◌+ℤ◌, ◌-ℤ◌, neg_ℤ, Bool, true, false, cond, Result, Ok, Err, arith}
use Rattle.std.specs.Prelude.{int_div}
use Rattle.std.proofs.lemmas.Int.{ints}
use Rattle.std.proofs.Math.Nat.{div-one, zero-div, div-zero}
use Rattle.tree.specs.Operators.{fits}
use Rattle.tree.specs.Steps.{◌>>=◌}
use Rattle.tree.specs.declared.ops.Fault.{Fault}
use Rattle.tree.specs.declared.ops.Fault.TheVariants.{Overflow}
use Rattle.meaning.specs.Value.{exact, as_count, trip_count}
use Rattle.rewrite.proofs.Values.{parted, joined}

exact-is : (z y : ℤ) → exact z ≡ Ok y → z ≡ y
exact-is z y h = by (fits 127 z) h
  where
    by : (b : Bool) → ◌≡◌ {A = Result ℤ Fault} (cond b (Ok z) (Err Overflow)) (Ok y) → z ≡ y
    by true e = cc
    by false e = cc

exact-fits : (z : ℤ) → fits 127 z ≡ true → exact z ≡ Ok z
exact-fits z h = ap (λ b. cond b (Ok z) (Err Overflow)) h

by_one : (z : ℤ) → int_div z (pos 1) ≡ z
by_one (pos n) = ap pos (div-one n)
by_one (negsuc n) = ap (λ k. neg_ℤ (pos k)) (div-one (suc n))

-- the quotient is the count
quotient-counts : (a b d : ℤ) (n : ℕ) → trip_count a b d ≡ Ok n → as_count (int_div ((b -ℤ a) +ℤ d) d) ≡ Ok n
quotient-counts a b d n h =
    let p = parted (exact (b -ℤ a)) (λ x. do y ← exact (x +ℤ d); q ← exact (int_div y d); as_count q) n h in
    let q = parted (exact (p.part +ℤ d)) (λ y. do q ← exact (int_div y d); as_count q) n p.second in
    let r = parted (exact (int_div q.part d)) (λ q. as_count q) n q.second in
    let one = exact-is (b -ℤ a) p.part p.first in
    let two = exact-is (p.part +ℤ d) q.part q.first in
    let three = exact-is (int_div q.part d) r.part r.first in
    ap (λ z. as_count (int_div (z +ℤ d) d)) one ∙ (ap (λ z. as_count (int_div z d)) two ∙ (ap as_count three ∙ r.second))

back : (t : ℤ) → (t -ℤ pos 1) +ℤ pos 1 ≡ t
back t = omega (arith, ints)

pub counts_by_one : (t : ℤ) (n : ℕ) → fits 127 t ≡ true → fits 127 (t -ℤ pos 1) ≡ true → as_count t ≡ Ok n → trip_count (pos 1) t (pos 1) ≡ Ok n
counts_by_one t n wide less h =
    joined (exact (t -ℤ pos 1)) (λ x. do y ← exact (x +ℤ pos 1); q ← exact (int_div y (pos 1)); as_count q) (t -ℤ pos 1) n (exact-fits (t -ℤ pos 1) less)
    (joined (exact ((t -ℤ pos 1) +ℤ pos 1)) (λ y. do q ← exact (int_div y (pos 1)); as_count q) t n (ap exact (back t) ∙ exact-fits t wide)
    (joined (exact (int_div t (pos 1))) (λ q. as_count q) t n (ap exact (by_one t) ∙ exact-fits t wide) h))

-- a quotient doesn't change with both signs
both_signs : (x y : ℤ) → int_div (neg_ℤ x) (neg_ℤ y) ≡ int_div x y
both_signs (pos zero) (pos zero) = refl
both_signs (pos zero) (pos (suc n)) = ap (λ k. neg_ℤ (pos k)) (zero-div (suc n)) ∙ ap pos (sym (zero-div (suc n)))
both_signs (pos zero) (negsuc n) = ap pos (zero-div (suc n)) ∙ ap (λ k. neg_ℤ (pos k)) (sym (zero-div (suc n)))
both_signs (pos (suc m)) (pos zero) = ap (λ k. neg_ℤ (pos k)) (div-zero (suc m)) ∙ ap pos (sym (div-zero (suc m)))
both_signs (pos (suc m)) (pos (suc n)) = refl
both_signs (pos (suc m)) (negsuc n) = refl
both_signs (negsuc m) (pos zero) = ap pos (div-zero (suc m)) ∙ ap (λ k. neg_ℤ (pos k)) (sym (div-zero (suc m)))
both_signs (negsuc m) (pos (suc n)) = refl
both_signs (negsuc m) (negsuc n) = refl

-- for a positive increment, and for a negative one
pub same_trip : (a b d : ℤ) (n : ℕ) → let t = int_div ((b -ℤ a) +ℤ d) d in fits 127 t ≡ true → fits 127 (t -ℤ pos 1) ≡ true → trip_count a b d ≡ Ok n → trip_count (pos 1) t (pos 1) ≡ Ok n
same_trip a b d n wide less h = counts_by_one (int_div ((b -ℤ a) +ℤ d) d) n wide less (quotient-counts a b d n h)

turned : (a b d : ℤ) → (a -ℤ b) -ℤ d ≡ neg_ℤ ((b -ℤ a) +ℤ d)
turned a b d = omega (arith, ints)

pub downward : (a b d : ℤ) → int_div ((a -ℤ b) -ℤ d) (neg_ℤ d) ≡ int_div ((b -ℤ a) +ℤ d) d
downward a b d = ap (λ z. int_div z (neg_ℤ d)) (turned a b d) ∙ both_signs ((b -ℤ a) +ℤ d) d
