use Rattle.std.proofs.Common.{◌≡◌, ℕ, ◌/◌, ◌<◌, ◌≤◌, ◌↔◌, suc, arith}
use Rattle.std.specs.Prelude.{ℤ, pos, negsuc, ◌-ℤ◌, ◌*ℤ◌, ◌≤ℤ◌, ◌<ℤ◌, unsigned_abs}
use Rattle.std.specs.Int.{int_div_euclid}
use Rattle.std.proofs.lemmas.Int.{ints}
use Rattle.std.proofs.lemmas.Nat.{le-div, div_below}
use Rattle.std.proofs.Math.IntN.{neg_ℤ}
use Rattle.dependence_tests.specs.loop_lines.line_points.Stretch.{IsIn}
use Rattle.dependence_tests.specs.declared.loop_lines.line_points.stretch.Stretch.{Stretch}
use Rattle.dependence_tests.proofs.loop_lines.LinePoints.Ring.{times_neg, neg_times, linear}
use Rattle.std.proofs.Math.Nat.{mul-le-mul_left, mul-div-le, div-le_self}

pub floor_out : (n s : ℤ) (k : ℕ) → 0 < k → s ≤ℤ int_div_euclid n (pos k) → (pos k *ℤ s) ≤ℤ n
floor_out (pos n) (pos s) k h e =
    let d : s ≤ n / k = omega (arith, ints) in
    omega (arith, ints, mul-le-mul_left k d, mul-div-le n k)
floor_out (pos n) (negsuc s) k h e = omega (arith, ints)
floor_out (negsuc n) (pos s) k h e = absurd (omega (arith, ints))
floor_out (negsuc n) (negsuc s) k h e =
    let d : n / k ≤ s = omega (arith, ints) in
    omega (arith, ints, mul-le-mul_left k d)

pub floor_in : (n s : ℤ) (k : ℕ) → 0 < k → (pos k *ℤ s) ≤ℤ n → s ≤ℤ int_div_euclid n (pos k)
floor_in (pos n) (pos s) k h e =
    let d : s ≤ n / k = le-div s n k h (omega (arith, ints)) in
    omega (arith, ints)
floor_in (pos n) (negsuc s) k h e = omega (arith, ints)
floor_in (negsuc n) (pos s) k h e = absurd (omega (arith, ints))
floor_in (negsuc n) (negsuc s) k h e =
    let d : n / k < suc s = div_below n k (suc s) h (omega (arith, ints)) in
    omega (arith, ints)

pub floor_size : (n : ℤ) (k : ℕ) → 0 < k → unsigned_abs (int_div_euclid n (pos k)) ≤ unsigned_abs n
floor_size (pos n) k h = div-le_self n k
floor_size (negsuc n) k h = omega (arith, ints, div-le_self n k)

-- from the greatest number for the opposite to the least one
pub least_of : (f k m s : ℤ) → (neg_ℤ s ≤ℤ f) ↔ ((k *ℤ neg_ℤ s) ≤ℤ neg_ℤ m) → (neg_ℤ f ≤ℤ s) ↔ (m ≤ℤ (k *ℤ s))
least_of f k m s (out, back) = (
  λ h. let a : (k *ℤ neg_ℤ s) ≤ℤ neg_ℤ m = out (omega (arith, linear)) in
      let b = simp times_neg at a in
      omega (arith, linear),
  λ h. let b : neg_ℤ (k *ℤ s) ≤ℤ neg_ℤ m = omega (arith, linear) in
      let a : (k *ℤ neg_ℤ s) ≤ℤ neg_ℤ m = simp times_neg b in
      let d : neg_ℤ s ≤ℤ f = back a in
      omega (arith, linear),
)

-- the same for a coefficient below 0
pub greatest_of : (f k m s : ℤ) → (s ≤ℤ f) ↔ ((neg_ℤ k *ℤ s) ≤ℤ neg_ℤ m) → (s ≤ℤ f) ↔ (m ≤ℤ (k *ℤ s))
greatest_of f k m s (out, back) = (
  λ h. let b = simp neg_times at (out h) in omega (arith, linear),
  λ h. let b : neg_ℤ (k *ℤ s) ≤ℤ neg_ℤ m = omega (arith, linear) in
      back (simp neg_times b),
)

pub raised : (r : Stretch) (least k m s : ℤ) → r.low <ℤ least → (least ≤ℤ s) ↔ (m ≤ℤ (k *ℤ s)) → IsIn (record { low = least; high = r.high }) s ↔ (IsIn r s × (m ≤ℤ (k *ℤ s)))
raised r least k m s h (out, back) = (
  λ i. let l : least ≤ℤ s = i.low in (record { low = omega (arith, linear); high = i.high }, out l),
  λ p. record { low = back p.1; high = p.0.high },
)

pub raised_not : (r : Stretch) (least k m s : ℤ) → least ≤ℤ r.low → (least ≤ℤ s) ↔ (m ≤ℤ (k *ℤ s)) → IsIn r s ↔ (IsIn r s × (m ≤ℤ (k *ℤ s)))
raised_not r least k m s h (out, back) =
    (λ i. let l : r.low ≤ℤ s = i.low in (i, out (omega (arith, linear))), λ p. p.0)

pub lowered : (r : Stretch) (greatest k m s : ℤ) → greatest <ℤ r.high → (s ≤ℤ greatest) ↔ (m ≤ℤ (k *ℤ s)) → IsIn (record { low = r.low; high = greatest }) s ↔ (IsIn r s × (m ≤ℤ (k *ℤ s)))
lowered r greatest k m s h (out, back) = (
  λ i. let l : s ≤ℤ greatest = i.high in (record { low = i.low; high = omega (arith, linear) }, out l),
  λ p. record { low = p.0.low; high = back p.1 },
)

pub lowered_not : (r : Stretch) (greatest k m s : ℤ) → r.high ≤ℤ greatest → (s ≤ℤ greatest) ↔ (m ≤ℤ (k *ℤ s)) → IsIn r s ↔ (IsIn r s × (m ≤ℤ (k *ℤ s)))
lowered_not r greatest k m s h (out, back) =
    (λ i. let l : s ≤ℤ r.high = i.high in (i, out (omega (arith, linear))), λ p. p.0)

-- a code's `-z`
pub zero_less : (z : ℤ) → pos 0 -ℤ z ≡ neg_ℤ z
zero_less z = omega (arith, linear)
