-- Division, MOD, MAX and MIN in words of their own.
use Rattle.std.proofs.Common.{◌≡◌, ⊎_elim, refl, sym, subst, ℕ, zero, suc, ◌<◌, ◌≤◌, ◌%◌, ℤ, pos, negsuc, neg_ℤ, ◌+ℤ◌, ◌-ℤ◌, ◌*ℤ◌, ◌≤ℤ◌, Bool, true, false, cond, List, [], ◌∷◌, Ok, Err, arith}
use Rattle.std.specs.Prelude.{nat_abs, int_div, int_rem}
use Rattle.std.specs.Int.{int_max, int_min}
use Rattle.std.specs.List.{All, Contains, fold}
use Rattle.std.specs.Ordering.{int_eq}
use Rattle.std.proofs.Math.Nat.{mod-le}
use Rattle.std.proofs.lemmas.Bool.Decides.{Decides-int_eq}
use Rattle.std.proofs.lemmas.Int.{ints, quot-rem, rem_below, fold-int_max_bounds, fold-int_max_reached, fold-int_min_bounds, fold-int_min_reached}
use Rattle.std.proofs.lemmas.List.Elements.{All-cons}
use Rattle.tree.specs.Operators.{quotient, exact_call}
use Rattle.tree.specs.declared.ops.Fault.TheVariants.{ZeroDivide}
use Rattle.tree.specs.declared.functions.Fun.TheVariants.{Max, Min}

-- q is a over b, truncated towards zero: what is left is smaller than b, and is never of the sign that a isn't of
pub record Truncates (a b q : ℤ) : Type 0 where
  pub small : nat_abs (a -ℤ (q *ℤ b)) < nat_abs b
  pub positive : pos 0 ≤ℤ a → pos 0 ≤ℤ (a -ℤ (q *ℤ b))
  pub negative : a ≤ℤ pos 0 → (a -ℤ (q *ℤ b)) ≤ℤ pos 0

difference : (a p r : ℤ) → p +ℤ r ≡ a → r ≡ a -ℤ p
difference a p r e = omega (arith, ints)

rest_is : (a b : ℤ) → int_rem a b ≡ a -ℤ (int_div a b *ℤ b)
rest_is a b = difference a (int_div a b *ℤ b) (int_rem a b) (quot-rem a b)

rem-positive : (a b : ℤ) → pos 0 ≤ℤ a → pos 0 ≤ℤ int_rem a b
rem-positive (pos n) b h = omega (arith, ints)
rem-positive (negsuc n) b h = absurd (omega (arith, ints))

below_zero : (m : ℕ) → neg_ℤ (pos m) ≤ℤ pos 0
below_zero zero = omega (arith, ints)
below_zero (suc m) = omega (arith, ints)

rem-negative : (a b : ℤ) → a ≤ℤ pos 0 → int_rem a b ≤ℤ pos 0
rem-negative (pos zero) b h = let none : 0 % nat_abs b ≤ 0 = mod-le 0 (nat_abs b) in omega (arith, ints)
rem-negative (pos (suc n)) b h = absurd (omega (arith, ints))
rem-negative (negsuc n) b h = below_zero (suc n % nat_abs b)

nonzero : (b : ℤ) → (b ≡ pos 0 → ⊥) → 0 < nat_abs b
nonzero (pos zero) h = absurd (h refl)
nonzero (pos (suc n)) h = omega arith
nonzero (negsuc n) h = omega arith

truncates : (a b : ℤ) → (b ≡ pos 0 → ⊥) → Truncates a b (int_div a b)
truncates a b h = record {
  small = subst (λ (r : ℤ). nat_abs r < nat_abs b) (rest_is a b) (rem_below a b (nonzero b h));
  positive = λ p. subst (λ (r : ℤ). pos 0 ≤ℤ r) (rest_is a b) (rem-positive a b p);
  negative = λ p. subst (λ (r : ℤ). r ≤ℤ pos 0) (rest_is a b) (rem-negative a b p);
}

divided : (zero_divisor : Bool) (q r : ℤ) → cond zero_divisor (Err ZeroDivide) (Ok q) ≡ Ok r → (zero_divisor ≡ false) × (q ≡ r)
divided true q r e = absurd (cc)
divided false q r e = (refl, cc)

-- a quotient is truncated towards zero
pub quotient-Truncates : (a b q : ℤ) → quotient a b ≡ Ok q → Truncates a b q
quotient-Truncates a b q e =
    let d = divided (int_eq b (pos 0)) (int_div a b) q e in
    subst (Truncates a b) d.1 (truncates a b (λ z. let yes : int_eq b (pos 0) ≡ true = (Decides-int_eq b (pos 0)).1 z in let other = d.0 in absurd (cc)))

-- ---- the greatest and the least

at_head : (x : ℤ) (xs : List ℤ) (r : ℤ) → r ≡ x → Contains (x ∷ xs) r
at_head x xs r e = (0, omega arith, sym e)

further : (x : ℤ) (xs : List ℤ) (r : ℤ) → Contains xs r → Contains (x ∷ xs) r
further x xs r c = (suc c.0, omega (arith, c.1), c.2)

-- r is one of the numbers, and none is greater
pub record IsGreatest (zs : List ℤ) (r : ℤ) : Type 0 where
  pub among : Contains zs r
  pub bound : All (λ z. z ≤ℤ r) zs

-- r is one of the numbers, and none is less
pub record IsLeast (zs : List ℤ) (r : ℤ) : Type 0 where
  pub among : Contains zs r
  pub bound : All (λ z. r ≤ℤ z) zs

pub exact_call-Max : (zs : List ℤ) (r : ℤ) → exact_call Max zs ≡ Ok r → IsGreatest zs r
exact_call-Max [] r e = absurd (cc)
exact_call-Max (a ∷ []) r e = absurd (cc)
exact_call-Max (a ∷ b ∷ more) r e =
    let value : r ≡ fold int_max a (b ∷ more) = cc in
    let bounds = fold-int_max_bounds a (b ∷ more) r value in
    record {
      among = ⊎_elim (at_head a (b ∷ more) r) (further a (b ∷ more) r) (fold-int_max_reached a (b ∷ more) r value);
      bound = All-cons (λ z. z ≤ℤ r) a (b ∷ more) bounds.0 bounds.1;
    }

pub exact_call-Min : (zs : List ℤ) (r : ℤ) → exact_call Min zs ≡ Ok r → IsLeast zs r
exact_call-Min [] r e = absurd (cc)
exact_call-Min (a ∷ []) r e = absurd (cc)
exact_call-Min (a ∷ b ∷ more) r e =
    let value : r ≡ fold int_min a (b ∷ more) = cc in
    let bounds = fold-int_min_bounds a (b ∷ more) r value in
    record {
      among = ⊎_elim (at_head a (b ∷ more) r) (further a (b ∷ more) r) (fold-int_min_reached a (b ∷ more) r value);
      bound = All-cons (λ z. r ≤ℤ z) a (b ∷ more) bounds.0 bounds.1;
    }
