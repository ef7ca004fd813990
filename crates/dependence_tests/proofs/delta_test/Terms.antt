-- What a loop adds to the difference of both sides, with points and distances put in.
use Rattle.std.proofs.Common.{◌≡◌, ap, arith, ◌∙◌, ◌≤◌}
use Rattle.std.specs.Prelude.{ℤ, pos, ◌+ℤ◌, ◌-ℤ◌, ◌*ℤ◌, unsigned_abs}
use Rattle.std.proofs.Math.IntN.{zero-*ℤ}
use Rattle.dependence_tests.proofs.loop_lines.LinePoints.Ring.{ring, linear, times_plus}
use Rattle.dependence_tests.proofs.loop_lines.LinePoints.Steps.{zero_from_abs}
use Rattle.dependence_tests.specs.delta_test.Reductions.{term_value}
use Rattle.dependence_tests.specs.declared.delta_test.put.Term.{Term}

less_times : (a b i : ℤ) → (a -ℤ b) *ℤ i ≡ a *ℤ i -ℤ b *ℤ i
less_times a b i = simp ring (omega (arith, linear))

pub point_value : (t : Term) (a b x y i j : ℤ) → t.first ≡ pos 0 → t.second ≡ pos 0 → t.constant ≡ a *ℤ x -ℤ b *ℤ y → i ≡ x → j ≡ y
    → a *ℤ i -ℤ b *ℤ j ≡ term_value t i j
point_value t a b x y i j f s k ei ej =
    let e : a *ℤ i ≡ a *ℤ x = ap (λ (z : ℤ). a *ℤ z) ei in
    let g : b *ℤ j ≡ b *ℤ y = ap (λ (z : ℤ). b *ℤ z) ej in
    let m : t.first *ℤ i ≡ pos 0 = ap (λ (z : ℤ). z *ℤ i) f ∙ zero-*ℤ i in
    let n : t.second *ℤ j ≡ pos 0 = ap (λ (z : ℤ). z *ℤ j) s ∙ zero-*ℤ j in
    omega (arith, linear)

pub distance_value : (t : Term) (a b d i j : ℤ) → t.first ≡ a -ℤ b → t.second ≡ pos 0 → t.constant ≡ pos 0 -ℤ (b *ℤ d) → j ≡ i +ℤ d
    → a *ℤ i -ℤ b *ℤ j ≡ term_value t i j
distance_value t a b d i j f s k e =
    let g : b *ℤ j ≡ b *ℤ i +ℤ b *ℤ d = ap (λ (z : ℤ). b *ℤ z) e ∙ times_plus b i d in
    let m : t.first *ℤ i ≡ a *ℤ i -ℤ b *ℤ i = ap (λ (z : ℤ). z *ℤ i) f ∙ less_times a b i in
    let n : t.second *ℤ j ≡ pos 0 = ap (λ (z : ℤ). z *ℤ j) s ∙ zero-*ℤ j in
    omega (arith, linear)

-- a loop round both references, one round the first alone and one round the second alone
pub three_values : (a b x y : ℤ) (t f s : Term) → a *ℤ x -ℤ b *ℤ y ≡ term_value t x y → t.first *ℤ x -ℤ pos 0 *ℤ pos 1 ≡ term_value f x (pos 1)
    → pos 0 *ℤ pos 1 -ℤ t.second *ℤ y ≡ term_value s (pos 1) y → unsigned_abs f.second ≤ 0 → unsigned_abs s.first ≤ 0
    → a *ℤ x -ℤ b *ℤ y ≡ (f.first *ℤ x -ℤ s.second *ℤ y) +ℤ ((t.constant +ℤ f.constant) +ℤ s.constant)
three_values a b x y t f s h k l u v =
    let zu : f.second ≡ pos 0 = zero_from_abs f.second (omega arith) in
    let zv : s.first ≡ pos 0 = zero_from_abs s.first (omega arith) in
    let m : f.second *ℤ pos 1 ≡ pos 0 = ap (λ (z : ℤ). z *ℤ pos 1) zu in
    let n : s.first *ℤ pos 1 ≡ pos 0 = ap (λ (z : ℤ). z *ℤ pos 1) zv in
    omega (arith, linear)
