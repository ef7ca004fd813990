-- One step of Euclid's algorithm.
use Rattle.std.proofs.Common.{◌≡◌, ℕ, ◌+◌, ◌*◌, ◌<◌, ◌≤◌, max, zero, suc, refl, ap, subst, arith, sym, ◌∙◌}
use Rattle.std.specs.Prelude.{ℤ, pos, ◌+ℤ◌, ◌-ℤ◌, ◌*ℤ◌, unsigned_abs}
use Rattle.std.proofs.lemmas.Int.{ints, unsigned_abs-mul}
use Rattle.std.proofs.Math.Nat.{mul-le-mul_left, le_of_mul-le-mul_left, le-mul_of_pos_right}
use Rattle.dependence_tests.specs.loop_lines.line_points.Bezout.{IsBezout}
use Rattle.dependence_tests.specs.declared.loop_lines.line_points.bezout.Bezout.{Bezout}
use Rattle.dependence_tests.specs.loop_lines.line_points.Quotient.{IsQuotient}
use Rattle.dependence_tests.specs.declared.loop_lines.line_points.whole.Quotient.{Quotient}
use Rattle.dependence_tests.proofs.loop_lines.LinePoints.Ring.{ring, linear}

pub abs_sum : (a b : ℤ) → unsigned_abs (a +ℤ b) ≤ unsigned_abs a + unsigned_abs b
abs_sum a b = omega (arith, ints)

pub abs_less : (a b : ℤ) → unsigned_abs (a -ℤ b) ≤ unsigned_abs a + unsigned_abs b
abs_less a b = omega (arith, ints)

-- a factor of a number other than 0 is at most that number
pub factor_le : (g p : ℕ) → 0 < g → p ≤ g * p
factor_le g p h = omega (arith, le-mul_of_pos_right p h)

pub pos_factor : (g p b : ℕ) → g * p ≡ b → 0 < b → 0 < p
pos_factor g zero b e h = omega arith
pos_factor g (suc p) b e h = omega arith

-- the sizes of both sides of an equation of products
pub product_size : (g p b : ℤ) → g *ℤ p ≡ b → unsigned_abs g * unsigned_abs p ≡ unsigned_abs b
product_size g p b e = sym (unsigned_abs-mul g p) ∙ ap unsigned_abs e

pub zero_from_abs : (z : ℤ) → unsigned_abs z ≡ 0 → z ≡ pos 0
zero_from_abs z e = omega (arith, ints)

pub zero_or : {P : Type 0} (n : ℕ) → (n ≡ 0 → P) → (0 < n → P) → P
zero_or zero f g = f refl
zero_or (suc n) f g = g (omega arith)

-- what Euclid's step knows in sizes
pub record Step (a b : ℤ) (q : Quotient) (i : Bezout) : Type 0 where
  pub g_positive : 0 < unsigned_abs i.divisor
  pub b_positive : 0 < unsigned_abs b
  pub p_positive : 0 < unsigned_abs i.first
  pub p_le : unsigned_abs i.first ≤ unsigned_abs b
  pub q_le : unsigned_abs i.second ≤ unsigned_abs q.rest
  pub kp_le : unsigned_abs q.times * unsigned_abs i.first ≤ unsigned_abs a
  pub y_le : unsigned_abs i.y ≤ unsigned_abs i.first
  pub ky_le : unsigned_abs q.times * unsigned_abs i.y ≤ unsigned_abs q.times * unsigned_abs i.first
  pub rest_le : unsigned_abs q.rest ≤ unsigned_abs a

pub step_is : (a b : ℤ) (q : Quotient) (i : Bezout) → (b ≡ pos 0 → ⊥) → IsQuotient a b q → IsBezout b q.rest i → Step a b q i
step_is a b q i h k n =
    let b0 : 0 < unsigned_abs b = omega (arith, ints) in
    let g0 : 0 < unsigned_abs i.divisor = omega (arith, ints, n.positive) in
    let e : unsigned_abs i.divisor * unsigned_abs i.first ≡ unsigned_abs b = product_size i.divisor i.first b n.first in
    let f : unsigned_abs i.divisor * unsigned_abs i.second ≡ unsigned_abs q.rest = product_size i.divisor i.second q.rest n.second in
    let p0 : 0 < unsigned_abs i.first = pos_factor (unsigned_abs i.divisor) (unsigned_abs i.first) (unsigned_abs b) e b0 in
    let pb : unsigned_abs i.first ≤ unsigned_abs b = omega (arith, factor_le (unsigned_abs i.divisor) (unsigned_abs i.first) g0) in
    let qr : unsigned_abs i.second ≤ unsigned_abs q.rest = omega (arith, factor_le (unsigned_abs i.divisor) (unsigned_abs i.second) g0) in
    let yl : unsigned_abs i.y ≤ unsigned_abs i.first = omega (arith, n.y_size) in
    record {
      g_positive = g0;
      b_positive = b0;
      p_positive = p0;
      p_le = pb;
      q_le = qr;
      kp_le = omega (arith, mul-le-mul_left (unsigned_abs q.times) pb, k.sizes);
      y_le = yl;
      ky_le = mul-le-mul_left (unsigned_abs q.times) yl;
      rest_le = omega (arith, k.sizes);
    }

same_factor : (g m n : ℕ) → 0 < g → g * m ≡ g * n → m ≡ n
same_factor g m n h e =
    let p : m ≤ n = le_of_mul-le-mul_left {k = g} (omega arith) h in
    let q : n ≤ m = le_of_mul-le-mul_left {k = g} (omega arith) h in
    omega arith

scaled_first : (a b : ℤ) (q : Quotient) (i : Bezout) (first : ℤ) → IsQuotient a b q → IsBezout b q.rest i → first ≡ q.times *ℤ i.first +ℤ i.second → i.divisor *ℤ first ≡ a
scaled_first a b q i first k n e =
    let e1 : q.times *ℤ (i.divisor *ℤ i.first) ≡ q.times *ℤ b = ap (λ (z : ℤ). q.times *ℤ z) n.first in
    let e1' = simp ring at e1 in
    let e2 : i.divisor *ℤ first ≡ i.divisor *ℤ (q.times *ℤ i.first +ℤ i.second) = ap (λ (z : ℤ). i.divisor *ℤ z) e in
    let e2' = simp ring at e2 in
    let e3 = simp ring at k.whole in
    simp ring (omega (arith, linear))

scaled_one : (k p q x y first y' : ℤ) → p *ℤ x +ℤ q *ℤ y ≡ pos 1 → first ≡ k *ℤ p +ℤ q → y' ≡ x -ℤ k *ℤ y → first *ℤ y +ℤ p *ℤ y' ≡ pos 1
scaled_one k p q x y first y' e f g =
    let e1 : first *ℤ y ≡ (k *ℤ p +ℤ q) *ℤ y = ap (λ (z : ℤ). z *ℤ y) f in
    let e1' = simp ring at e1 in
    let e2 : p *ℤ y' ≡ p *ℤ (x -ℤ k *ℤ y) = ap (λ (z : ℤ). p *ℤ z) g in
    let e2' = simp ring at e2 in
    simp ring (omega (arith, linear))

y_bound : (q : Quotient) (i : Bezout) {a b : ℤ} (first y : ℤ) → Step a b q i → y ≡ i.x -ℤ q.times *ℤ i.y → unsigned_abs first ≡ unsigned_abs q.times * unsigned_abs i.first + unsigned_abs i.second → IsBezout b q.rest i → unsigned_abs y ≤ max 1 (unsigned_abs first)
y_bound q i first y s ey size n =
    let l : unsigned_abs y ≤ unsigned_abs i.x + unsigned_abs (q.times *ℤ i.y) = subst (λ (z : ℤ). unsigned_abs z ≤ unsigned_abs i.x + unsigned_abs (q.times *ℤ i.y)) (sym ey) (abs_less i.x (q.times *ℤ i.y)) in
    let m : unsigned_abs (q.times *ℤ i.y) ≡ unsigned_abs q.times * unsigned_abs i.y = unsigned_abs-mul q.times i.y in
    zero_or (unsigned_abs i.second)
    (λ z. let e : unsigned_abs i.y ≡ 0 = ap unsigned_abs (n.alone (zero_from_abs i.second z)) in
    let f : unsigned_abs q.times * unsigned_abs i.y ≡ 0 = ap (λ (t : ℕ). unsigned_abs q.times * t) e ∙ omega arith in
    omega (arith, n.x_size))
    (λ p. omega (arith, n.x_size, s.ky_le))

-- the size of the first coefficient over the divisor, exactly
first_size : (g kp q a b r : ℕ) (f p k : ℕ) → 0 < g → g * f ≡ a → g * p ≡ b → g * q ≡ r → k * b + r ≡ a → f ≡ k * p + q
first_size g kp q a b r f p k h ef ep eq es =
    same_factor g f (k * p + q) h (ef ∙ sym es ∙ sym (ap (λ (z : ℕ). k * z + r) ep) ∙ sym (ap (λ (z : ℕ). k * (g * p) + z) eq) ∙ omega arith)

pub euclid_step : (a b : ℤ) (q : Quotient) (i : Bezout) (first y : ℤ) → (b ≡ pos 0 → ⊥) → IsQuotient a b q → IsBezout b q.rest i
    → first ≡ q.times *ℤ i.first +ℤ i.second → y ≡ i.x -ℤ q.times *ℤ i.y
    → IsBezout a b (record { divisor = i.divisor; first = first; second = i.first; x = i.y; y = y })
euclid_step a b q i first y h k n ef ey =
    let s : Step a b q i = step_is a b q i h k n in
    let whole : i.divisor *ℤ first ≡ a = scaled_first a b q i first k n ef in
    let size : unsigned_abs first ≡ unsigned_abs q.times * unsigned_abs i.first + unsigned_abs i.second =
    first_size (unsigned_abs i.divisor) 0 (unsigned_abs i.second) (unsigned_abs a) (unsigned_abs b) (unsigned_abs q.rest) (unsigned_abs first) (unsigned_abs i.first) (unsigned_abs q.times)
    s.g_positive (product_size i.divisor first a whole) (product_size i.divisor i.first b n.first) (product_size i.divisor i.second q.rest n.second) k.sizes in
    record {
      positive = n.positive;
      first = whole;
      second = n.first;
      one = scaled_one q.times i.first i.second i.x i.y first y n.one ef ey;
      x_size = omega (arith, s.y_le);
      y_size = y_bound q i first y s ey size n;
      alone = λ e. absurd (omega (arith, ints, s.p_positive));
    }
