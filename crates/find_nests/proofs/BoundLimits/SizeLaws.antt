-- How large coefficients are.
use Rattle.std.proofs.Common.{◌≡◌, refl, sym, ap, ◌∙◌, subst, ℕ, zero, suc, ◌+◌, ◌-◌, ◌*◌, ◌^◌, ◌≤◌, ◌<◌, ℤ, pos, negsuc, ◌+ℤ◌, ◌*ℤ◌, Bool, true, false, ◌&&◌, List, [], ◌∷◌, ◌++◌, map, length, get_or, replicate, add-one, arith}
use Rattle.std.specs.Prelude.{nat_abs, neg_ℤ}
use Rattle.std.proofs.lemmas.Bool.{leb-true}
use Rattle.std.proofs.lemmas.Int.{ints, unsigned_abs-mul}
use Rattle.std.proofs.Math.Nat.{mul-le-mul_left, mul-le-mul_right}
use Rattle.linear_forms.specs.Linear.{Form, sum, multiple, constant_form, is_small, all_small}
use Rattle.linear_forms.specs.Places.{unit_form}
use Rattle.find_nests.specs.bound_limits.Limits.{keeps_limits, plus_constant}
use Rattle.find_nests.specs.bound_limits.Composed.{Outer}
use Rattle.find_nests.specs.bound_limits.View.{IsSized, CanAdd, AreSmall}
use Rattle.find_nests.proofs.BoundLimits.Lists.{get_or-added, get_or-scaled}

pub abs-sum : (a b : ℤ) → nat_abs (a +ℤ b) ≤ nat_abs a + nat_abs b
abs-sum (pos m) (pos n) = omega (arith, ints)
abs-sum (pos m) (negsuc n) = omega (arith, ints)
abs-sum (negsuc m) (pos n) = omega (arith, ints)
abs-sum (negsuc m) (negsuc n) = omega (arith, ints)

pub abs-product : (a b : ℤ) → nat_abs (a *ℤ b) ≡ nat_abs a * nat_abs b
abs-product a b = unsigned_abs-mul a b

pub smaller : (a b c d : ℕ) → a ≤ b → c ≤ d → a * c ≤ b * d
smaller a b c d h k =
    let left : a * c ≤ a * d = mul-le-mul_left a k in
    let right : a * d ≤ b * d = mul-le-mul_right d h in
    omega (arith, left, right)

-- a sum of x and k times y
pub size_of_sum : (x k y : ℤ) (a b c : ℕ) → nat_abs x ≤ a → nat_abs k ≤ b → nat_abs y ≤ c → nat_abs (x +ℤ k *ℤ y) ≤ a + b * c
size_of_sum x k y a b c h i j =
    let whole = abs-sum x (k *ℤ y) in
    let product = abs-product k y in
    let most = smaller (nat_abs k) b (nat_abs y) c i j in
    omega (arith, whole, product, most, h)

pub sized_sum : (f g : Form) (k : ℤ) (a b c : ℕ) → IsSized a f → nat_abs k ≤ b → IsSized c g → IsSized (a + b * c) (sum f (multiple k g))
sized_sum f g k a b c h i j = record {
  coefficients = λ p. subst (λ z. nat_abs z ≤ a + b * c)
      (sym (get_or-added f.coefficients (map (λ d. k *ℤ d) g.coefficients) p ∙ ap (λ z. get_or f.coefficients p (pos 0) +ℤ z) (get_or-scaled k g.coefficients p)))
      (size_of_sum (get_or f.coefficients p (pos 0)) k (get_or g.coefficients p (pos 0)) a b c (h.coefficients p) i (j.coefficients p));
  constant = size_of_sum f.constant k g.constant a b c h.constant i j.constant;
}

pub can_add : (f g : Form) (k : ℤ) (a b c : ℕ) → IsSized a f → nat_abs k ≤ b → IsSized c g → a + b * c < 2 ^ 127 → CanAdd f k g
can_add f g k a b c h i j fits = record {
  coefficients = λ p. let most = smaller (nat_abs k) b (nat_abs (get_or g.coefficients p (pos 0))) c i (j.coefficients p) in
      let first = h.coefficients p in omega (arith, most, first, fits);
  constant = let most = smaller (nat_abs k) b (nat_abs g.constant) c i j.constant in
      let first = h.constant in omega (arith, most, first, fits);
}

pub sized_more : (f : Form) (a b : ℕ) → a ≤ b → IsSized a f → IsSized b f
sized_more f a b h i = record {
  coefficients = λ p. let most = i.coefficients p in omega (arith, most, h);
  constant = let most = i.constant in omega (arith, most, h);
}

both : (a b : Bool) → (a && b) ≡ true → (a ≡ true) × (b ≡ true)
both true b h = (refl, h)
both false b h = cc

small-at : (cs : List ℤ) (j : ℕ) → all_small cs ≡ true → nat_abs (get_or cs j (pos 0)) ≤ 2 ^ 40
small-at [] j h = omega arith
small-at (c ∷ cs) zero h = leb-true (nat_abs c) (2 ^ 40) (both (is_small c) (all_small cs) h).0
small-at (c ∷ cs) (suc j) h = small-at cs j (both (is_small c) (all_small cs) h).1

-- a form within the limits is small
pub sized_of_kept : (n t : ℕ) (f : Form) → keeps_limits n t f ≡ true → IsSized (2 ^ 40) f
sized_of_kept n t f h =
    let first = both (all_small f.coefficients) _ h in
    record {
      coefficients = λ j. small-at f.coefficients j first.0;
      constant = leb-true (nat_abs f.constant) (2 ^ 40) (both (is_small f.constant) _ first.1).0;
    }

unit-at : (n j : ℕ) → nat_abs (get_or (replicate n (pos 0) ++ pos 1 ∷ []) j (pos 0)) ≤ 1
unit-at zero zero = omega arith
unit-at zero (suc j) = omega arith
unit-at (suc n) zero = omega arith
unit-at (suc n) (suc j) = unit-at n j

pub sized_unit : (n : ℕ) → IsSized 1 (unit_form n)
sized_unit n = record { coefficients = unit-at n; constant = omega arith }

-- ---- one multiple more

pub sized_one_more : (f g m : Form) (k : ℤ) (ts us : List ℤ) (t : ℤ) → ts ≡ t ∷ us → length ts ≤ 7 → IsSized (2 ^ 107 - length ts * 2 ^ 104) f
    → nat_abs k ≤ 2 ^ 63 → IsSized (2 ^ 41) g → m ≡ sum f (multiple k g) → IsSized (2 ^ 107 - length us * 2 ^ 104) m
sized_one_more f g m k ts us t is few h i j e =
    let count : length ts ≡ length us + 1 = ap length is ∙ sym (add-one (length us)) in
    subst (IsSized (2 ^ 107 - length us * 2 ^ 104)) (sym e)
    (sized_more (sum f (multiple k g)) ((2 ^ 107 - length ts * 2 ^ 104) + 2 ^ 63 * 2 ^ 41) (2 ^ 107 - length us * 2 ^ 104) (omega (arith, count, few))
    (sized_sum f g k (2 ^ 107 - length ts * 2 ^ 104) (2 ^ 63) (2 ^ 41) h i j))

pub small_first : (all rs : List Outer) (r : Outer) → all ≡ r ∷ rs → AreSmall all → IsSized (2 ^ 41) r.form
small_first all rs r e h = let both : AreSmall (r ∷ rs) = subst AreSmall e h in both.0

pub small_rest : (all rs : List Outer) (r : Outer) → all ≡ r ∷ rs → AreSmall all → AreSmall rs
small_rest all rs r e h = let both : AreSmall (r ∷ rs) = subst AreSmall e h in both.1
