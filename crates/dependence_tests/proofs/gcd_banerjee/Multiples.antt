-- Multiples of a number among the integers.
use Rattle.std.proofs.Common.{◌≡◌, ℕ, ◌+◌, ◌*◌, ◌≤◌, ◌-◌, ◌⊎◌, List, [], ◌∷◌, zero, suc, refl, ap, arith, sym, ◌∙◌, inl, inr, subst}
use Rattle.std.specs.Prelude.{ℤ, pos, ◌+ℤ◌, ◌-ℤ◌, ◌*ℤ◌, All, unsigned_abs}
use Rattle.std.proofs.Math.Nat.{dvd-add, dvd-sub, dvd-mul_right_of_dvd}
use Rattle.std.proofs.lemmas.Int.{ints, unsigned_abs-mul}
use Rattle.std.proofs.lemmas.List.Elements.{All-head, All-tail}
use Rattle.std.proofs.lemmas.Nat.Gcd.{dvd-zero}
use Prim.Native.Nat.{◌∣◌}
use Rattle.subscripts.proofs.SymbolSums.{sum_below}
use Rattle.subscripts.specs.Forms.{over_loops}

-- the size of a sum is the sum of the sizes, or their difference
size_of_sum : (a b : ℤ) → (unsigned_abs (a +ℤ b) ≡ unsigned_abs a + unsigned_abs b) ⊎ ((unsigned_abs (a +ℤ b) ≡ unsigned_abs a - unsigned_abs b) ⊎ (unsigned_abs (a +ℤ b) ≡ unsigned_abs b - unsigned_abs a))
size_of_sum a b = grind (arith, ints)

pub divides_sum : (d : ℕ) (a b : ℤ) → d ∣ unsigned_abs a → d ∣ unsigned_abs b → d ∣ unsigned_abs (a +ℤ b)
divides_sum d a b h k =
    elim (size_of_sum a b) [
      | inl e ↦ subst (λ n. d ∣ n) (sym e) (dvd-add d h k)
      | inr o ↦ elim o [ inl e ↦ subst (λ n. d ∣ n) (sym e) (dvd-sub d h k) | inr e ↦ subst (λ n. d ∣ n) (sym e) (dvd-sub d k h) ]
    ]

pub divides_product : (d : ℕ) (a b : ℤ) → d ∣ unsigned_abs a → d ∣ unsigned_abs (a *ℤ b)
divides_product d a b h = subst (λ n. d ∣ n) (sym (unsigned_abs-mul a b)) (dvd-mul_right_of_dvd d h (unsigned_abs b))

same_size : (a b : ℤ) → a +ℤ b ≡ pos 0 → unsigned_abs a ≡ unsigned_abs b
same_size a b e = omega (arith, ints)

pub divides_opposite : (d : ℕ) (a b : ℤ) → a +ℤ b ≡ pos 0 → d ∣ unsigned_abs a → d ∣ unsigned_abs b
divides_opposite d a b e h = subst (λ n. d ∣ n) (same_size a b e) h

pub divides_over_loops : (d : ℕ) (as' x : List ℤ) → All (λ a. d ∣ unsigned_abs a) as' → d ∣ unsigned_abs (over_loops as' x)
divides_over_loops d [] x h = dvd-zero d
divides_over_loops d (a ∷ as') [] h = dvd-zero d
divides_over_loops d (a ∷ as') (i ∷ x) h =
    divides_sum d (a *ℤ i) (over_loops as' x) (divides_product d a i (All-head (λ b. d ∣ unsigned_abs b) a as' h)) (divides_over_loops d as' x (All-tail (λ b. d ∣ unsigned_abs b) a as' h))

pub divides_sum_below : (d n : ℕ) (f : ℕ → ℤ) → ((s : ℕ) → d ∣ unsigned_abs (f s)) → d ∣ unsigned_abs (sum_below n f)
divides_sum_below d zero f h = dvd-zero d
divides_sum_below d (suc n) f h = divides_sum d (sum_below n f) (f n) (divides_sum_below d n f h) (h n)
