-- Cramer's rule for two lines.
use Rattle.std.proofs.Common.{◌≡◌, ◌*◌, ◌<◌, ◌≤◌, ◌^◌, ◌↔◌, ap, subst, arith, sym, ◌∙◌}
use Rattle.std.specs.Prelude.{ℤ, pos, ◌+ℤ◌, ◌-ℤ◌, ◌*ℤ◌, unsigned_abs}
use Rattle.std.proofs.Math.IntN.{neg_ℤ, zero-*ℤ, *ℤ_comm}
use Rattle.std.proofs.lemmas.Int.{ints}
use Rattle.std.proofs.lemmas.Nat.{mul-le}
use Rattle.dependence_tests.specs.declared.loop_lines.line_points.points.Line.{Line}
use Rattle.dependence_tests.specs.declared.loop_lines.line_points.whole.Quotient.{Quotient}
use Rattle.dependence_tests.specs.loop_lines.line_points.Quotient.{IsQuotient}
use Rattle.dependence_tests.specs.loop_lines.line_points.Lines.{OnLine}
use Rattle.dependence_tests.specs.loop_lines.line_points.Crossings.{IsSmallLine}
use Rattle.dependence_tests.proofs.loop_lines.LinePoints.Ring.{ring, linear}
use Rattle.dependence_tests.proofs.loop_lines.LinePoints.Steps.{zero_or, zero_from_abs}
use Rattle.dependence_tests.proofs.loop_lines.LinePoints.PointsOfLine.{cancel, small_multiple, multiple_of}

pub product_41 : (a b : ℤ) → unsigned_abs a ≤ 2 ^ 41 → unsigned_abs b ≤ 2 ^ 41 → unsigned_abs a * unsigned_abs b ≤ 2 ^ 82
product_41 a b h k = mul-le (unsigned_abs a) (unsigned_abs b) (2 ^ 41) (2 ^ 41) h k

-- a common point solves for its first number, and for its second one
pub first_solved : (a b c d e f i j : ℤ) → a *ℤ i +ℤ b *ℤ j ≡ c → d *ℤ i +ℤ e *ℤ j ≡ f → (a *ℤ e -ℤ b *ℤ d) *ℤ i ≡ c *ℤ e -ℤ b *ℤ f
first_solved a b c d e f i j h k =
    let x : (a *ℤ i +ℤ b *ℤ j) *ℤ e ≡ c *ℤ e = ap (λ (z : ℤ). z *ℤ e) h in
    let y : b *ℤ (d *ℤ i +ℤ e *ℤ j) ≡ b *ℤ f = ap (λ (z : ℤ). b *ℤ z) k in
    let x' = simp ring at x in
    let y' = simp ring at y in
    simp ring (omega (arith, linear))

pub second_solved : (a b c d e f i j : ℤ) → a *ℤ i +ℤ b *ℤ j ≡ c → d *ℤ i +ℤ e *ℤ j ≡ f → (a *ℤ e -ℤ b *ℤ d) *ℤ j ≡ a *ℤ f -ℤ c *ℤ d
second_solved a b c d e f i j h k =
    let x : (a *ℤ i +ℤ b *ℤ j) *ℤ d ≡ c *ℤ d = ap (λ (z : ℤ). z *ℤ d) h in
    let y : a *ℤ (d *ℤ i +ℤ e *ℤ j) ≡ a *ℤ f = ap (λ (z : ℤ). a *ℤ z) k in
    let x' = simp ring at x in
    let y' = simp ring at y in
    simp ring (omega (arith, linear))

-- what solves both equations lies on the lines
pub on_first : (a b c d e f i j : ℤ) → 0 < unsigned_abs (a *ℤ e -ℤ b *ℤ d) → (a *ℤ e -ℤ b *ℤ d) *ℤ i ≡ c *ℤ e -ℤ b *ℤ f → (a *ℤ e -ℤ b *ℤ d) *ℤ j ≡ a *ℤ f -ℤ c *ℤ d
    → a *ℤ i +ℤ b *ℤ j ≡ c
on_first a b c d e f i j n h k =
    cancel (a *ℤ e -ℤ b *ℤ d) (a *ℤ i +ℤ b *ℤ j) c n
    (let x : a *ℤ ((a *ℤ e -ℤ b *ℤ d) *ℤ i) ≡ a *ℤ (c *ℤ e -ℤ b *ℤ f) = ap (λ (z : ℤ). a *ℤ z) h in
    let y : b *ℤ ((a *ℤ e -ℤ b *ℤ d) *ℤ j) ≡ b *ℤ (a *ℤ f -ℤ c *ℤ d) = ap (λ (z : ℤ). b *ℤ z) k in
    let x' = simp ring at x in
    let y' = simp ring at y in
    simp ring (omega (arith, linear)))

pub on_second : (a b c d e f i j : ℤ) → 0 < unsigned_abs (a *ℤ e -ℤ b *ℤ d) → (a *ℤ e -ℤ b *ℤ d) *ℤ i ≡ c *ℤ e -ℤ b *ℤ f → (a *ℤ e -ℤ b *ℤ d) *ℤ j ≡ a *ℤ f -ℤ c *ℤ d
    → d *ℤ i +ℤ e *ℤ j ≡ f
on_second a b c d e f i j n h k =
    cancel (a *ℤ e -ℤ b *ℤ d) (d *ℤ i +ℤ e *ℤ j) f n
    (let x : d *ℤ ((a *ℤ e -ℤ b *ℤ d) *ℤ i) ≡ d *ℤ (c *ℤ e -ℤ b *ℤ f) = ap (λ (z : ℤ). d *ℤ z) h in
    let y : e *ℤ ((a *ℤ e -ℤ b *ℤ d) *ℤ j) ≡ e *ℤ (a *ℤ f -ℤ c *ℤ d) = ap (λ (z : ℤ). e *ℤ z) k in
    let x' = simp ring at x in
    let y' = simp ring at y in
    simp ring (omega (arith, linear)))

by_zero : {P : Type 0} (z : ℤ) → (z ≡ pos 0 → P) → (0 < unsigned_abs z → P) → P
by_zero z f g = zero_or (unsigned_abs z) (λ e. f (zero_from_abs z e)) g

-- parallel lines that agree have the same points
pub agreeing : (a b c d e f i j : ℤ) → a *ℤ e ≡ b *ℤ d → c *ℤ e ≡ b *ℤ f → a *ℤ f ≡ c *ℤ d → (a ≡ pos 0 → b ≡ pos 0 → ⊥) → a *ℤ i +ℤ b *ℤ j ≡ c → d *ℤ i +ℤ e *ℤ j ≡ f
agreeing a b c d e f i j p u v n h =
    by_zero a
    (λ z. by_zero b (λ w. absurd (n z w)) (λ w. cancel b (d *ℤ i +ℤ e *ℤ j) f w
    (let x : e *ℤ (a *ℤ i +ℤ b *ℤ j) ≡ e *ℤ c = ap (λ (t : ℤ). e *ℤ t) h in
    let y : (a *ℤ e) *ℤ i ≡ (b *ℤ d) *ℤ i = ap (λ (t : ℤ). t *ℤ i) p in
    let x' = simp ring at x in
    let y' = simp ring at y in
    let u' : e *ℤ c ≡ b *ℤ f = *ℤ_comm e c ∙ u in
    let u'' = simp ring at u' in
    simp ring (omega (arith, linear)))))
    (λ w. cancel a (d *ℤ i +ℤ e *ℤ j) f w
    (let x : d *ℤ (a *ℤ i +ℤ b *ℤ j) ≡ d *ℤ c = ap (λ (t : ℤ). d *ℤ t) h in
    let y : (a *ℤ e) *ℤ j ≡ (b *ℤ d) *ℤ j = ap (λ (t : ℤ). t *ℤ j) p in
    let x' = simp ring at x in
    let y' = simp ring at y in
    let v' : a *ℤ f ≡ d *ℤ c = v ∙ *ℤ_comm c d in
    let v'' = simp ring at v' in
    simp ring (omega (arith, linear))))

-- the three determinants of two lines
pub record Determinants (l m : Line) (all for_i for_j : ℤ) : Type 0 where
  pub all_is : all ≡ (l.first *ℤ m.second) -ℤ (l.second *ℤ m.first)
  pub for_i_is : for_i ≡ (l.constant *ℤ m.second) -ℤ (l.second *ℤ m.constant)
  pub for_j_is : for_j ≡ (l.first *ℤ m.constant) -ℤ (l.constant *ℤ m.first)

pub i_solved : (l m : Line) (all for_i for_j i j : ℤ) → Determinants l m all for_i for_j → OnLine l i j → OnLine m i j → all *ℤ i ≡ for_i
i_solved l m all for_i for_j i j d o p =
    ap (λ (z : ℤ). z *ℤ i) d.all_is ∙ first_solved l.first l.second l.constant m.first m.second m.constant i j o.equal p.equal ∙ sym d.for_i_is

pub j_solved : (l m : Line) (all for_i for_j i j : ℤ) → Determinants l m all for_i for_j → OnLine l i j → OnLine m i j → all *ℤ j ≡ for_j
j_solved l m all for_i for_j i j d o p =
    ap (λ (z : ℤ). z *ℤ j) d.all_is ∙ second_solved l.first l.second l.constant m.first m.second m.constant i j o.equal p.equal ∙ sym d.for_j_is

pub nowhere_if_parallel : (n all x : ℤ) → all ≡ pos 0 → all *ℤ x ≡ n → n ≡ pos 0
nowhere_if_parallel n all x z e = sym e ∙ ap (λ (t : ℤ). t *ℤ x) z ∙ zero-*ℤ x

pub everywhere : (l m : Line) (all for_i for_j : ℤ) → IsSmallLine l → IsSmallLine m → Determinants l m all for_i for_j → all ≡ pos 0 → for_i ≡ pos 0 → for_j ≡ pos 0
    → (i j : ℤ) → OnLine l i j ↔ OnLine m i j
everywhere l m all for_i for_j sl sm d za zi zj i j =
    let p : l.first *ℤ m.second ≡ l.second *ℤ m.first = omega (arith, linear, d.all_is) in
    let u : l.constant *ℤ m.second ≡ l.second *ℤ m.constant = omega (arith, linear, d.for_i_is) in
    let v : l.first *ℤ m.constant ≡ l.constant *ℤ m.first = omega (arith, linear, d.for_j_is) in (
      λ o. record { equal = agreeing l.first l.second l.constant m.first m.second m.constant i j p u v sl.slanted o.equal },
      λ o. record {
        equal = agreeing m.first m.second m.constant l.first l.second l.constant i j
            (*ℤ_comm m.first l.second ∙ sym p ∙ *ℤ_comm l.first m.second) (*ℤ_comm m.constant l.second ∙ sym u ∙ *ℤ_comm l.constant m.second) (*ℤ_comm m.first l.constant ∙ sym v ∙ *ℤ_comm l.first m.constant) sm.slanted o.equal;
      },
    )

-- a quotient that leaves something isn't solved
pub not_whole : (all n x : ℤ) (q : Quotient) → IsQuotient n all q → all *ℤ x ≡ n → q.rest ≡ pos 0
not_whole all n x q k e = small_multiple all (x -ℤ q.times) q.rest (multiple_of all x q.times q.rest n e k.whole) k.below

pub quotient_solves : (all n : ℤ) (q : Quotient) → IsQuotient n all q → q.rest ≡ pos 0 → all *ℤ q.times ≡ n
quotient_solves all n q k z = *ℤ_comm all q.times ∙ omega (arith, linear, k.whole)

pub at_point : (l m : Line) (all for_i for_j x y : ℤ) → Determinants l m all for_i for_j → 0 < unsigned_abs all → all *ℤ x ≡ for_i → all *ℤ y ≡ for_j
    → (i j : ℤ) → (OnLine l i j × OnLine m i j) ↔ ((i ≡ x) × (j ≡ y))
at_point l m all for_i for_j x y d h ex ey i j = (
  λ o. (cancel all i x h (i_solved l m all for_i for_j i j d o.0 o.1 ∙ sym ex), cancel all j y h (j_solved l m all for_i for_j i j d o.0 o.1 ∙ sym ey)),
  λ e. rw (e.0, e.1)
      (let n : 0 < unsigned_abs ((l.first *ℤ m.second) -ℤ (l.second *ℤ m.first)) = subst (λ (z : ℤ). 0 < unsigned_abs z) d.all_is h in
      let a : ((l.first *ℤ m.second) -ℤ (l.second *ℤ m.first)) *ℤ x ≡ (l.constant *ℤ m.second) -ℤ (l.second *ℤ m.constant) = sym (ap (λ (z : ℤ). z *ℤ x) d.all_is) ∙ ex ∙ d.for_i_is in
      let b : ((l.first *ℤ m.second) -ℤ (l.second *ℤ m.first)) *ℤ y ≡ (l.first *ℤ m.constant) -ℤ (l.constant *ℤ m.first) = sym (ap (λ (z : ℤ). z *ℤ y) d.all_is) ∙ ey ∙ d.for_j_is in (
        record { equal = on_first l.first l.second l.constant m.first m.second m.constant x y n a b },
        record { equal = on_second l.first l.second l.constant m.first m.second m.constant x y n a b },
      )),
)

pub abs_neg : (z : ℤ) → unsigned_abs (neg_ℤ z) ≡ unsigned_abs z
abs_neg z = omega (arith, ints)
