-- Lines as constraints, and the least pair of iterations of several.
use Rattle.std.proofs.Common.{◌≡◌, ◌<◌, ◌↔◌, refl, ap, arith, sym, ◌∙◌, MatchOption, Option, Some, None, inr}
use Rattle.std.specs.Prelude.{ℤ, pos, ◌+ℤ◌, ◌-ℤ◌, ◌*ℤ◌, unsigned_abs}
use Rattle.std.proofs.Math.IntN.{neg_ℤ, *ℤ_comm}
use Rattle.subscripts.specs.declared.affine.Dir.{Dir}
use Rattle.dependence_tests.specs.declared.loop_lines.line_points.points.Line.{Line}
use Rattle.dependence_tests.specs.declared.loop_lines.line_points.line.Both.{Both}
use Rattle.dependence_tests.specs.declared.loop_lines.line_points.whole.Quotient.{Quotient}
use Rattle.dependence_tests.specs.loop_lines.line_points.Quotient.{IsQuotient}
use Rattle.dependence_tests.specs.loop_lines.line_points.Lines.{OnLine}
use Rattle.dependence_tests.specs.loop_lines.line_points.Least.{IsWithin, HasNone, IsLeast}
use Rattle.dependence_tests.specs.loop_lines.line_points.Crossings.{IsSmallLine}
use Rattle.dependence_tests.proofs.loop_lines.LinePoints.Ring.{ring, linear, times_plus, times_neg}
use Rattle.dependence_tests.proofs.loop_lines.LinePoints.PointsOfLine.{cancel}
use Rattle.dependence_tests.proofs.loop_lines.LinePoints.Steps.{zero_or, zero_from_abs}
use Rattle.dependence_tests.proofs.loop_lines.LinePoints.Cramer.{not_whole}
use Rattle.dependence_tests.specs.declared.delta_test.constraint.Constraint.{Constraint}
use Rattle.dependence_tests.specs.declared.delta_test.constraint.Constraint.TheVariants.{AtPoint}
use Rattle.dependence_tests.specs.delta_test.Constraints.{Allows}
use Rattle.dependence_tests.specs.delta_test.IterationsLeft.{IsNoneLeft, IsLeastLeft}

pub least_along : (c : Constraint) (l : Line) (trip : ℤ) (d : Dir) (r : Option Both) → ((i j : ℤ) → Allows c i j ↔ OnLine l i j)
    → MatchOption r (HasNone l trip d) (λ at. IsLeast l trip d at.i at.j) → MatchOption r (IsNoneLeft c trip d) (λ at. IsLeastLeft c trip d at.i at.j)
least_along c l trip d None s h = λ i j a w. h i j ((s i j).0 a) w
least_along c l trip d (Some at) s h = record { left = (s at.i at.j).1 h.on; within = h.within; least = λ i j a w. h.least i j ((s i j).0 a) w }

-- a line with opposite coefficients
pub opposite : (a b c i j : ℤ) → a +ℤ b ≡ pos 0 → a *ℤ i +ℤ b *ℤ j ≡ c → a *ℤ (i -ℤ j) ≡ c
opposite a b c i j z e =
    let f : b ≡ neg_ℤ a = omega (arith, linear) in
    let g : b *ℤ j ≡ neg_ℤ a *ℤ j = ap (λ (t : ℤ). t *ℤ j) f in
    let g' = simp ring at g in
    let e' : a *ℤ i +ℤ neg_ℤ (a *ℤ j) ≡ c = omega (arith, linear) in
    simp (times_plus, times_neg) e'

pub opposite_back : (a b c i j : ℤ) → a +ℤ b ≡ pos 0 → a *ℤ (i -ℤ j) ≡ c → a *ℤ i +ℤ b *ℤ j ≡ c
opposite_back a b c i j z e =
    let f : b ≡ neg_ℤ a = omega (arith, linear) in
    let g : b *ℤ j ≡ neg_ℤ a *ℤ j = ap (λ (t : ℤ). t *ℤ j) f in
    let g' = simp ring at g in
    let e' = simp (times_plus, times_neg) at e in
    omega (arith, linear)

pub first_not_zero : (l : Line) → IsSmallLine l → l.first +ℤ l.second ≡ pos 0 → 0 < unsigned_abs l.first
first_not_zero l s z =
    zero_or {P = 0 < unsigned_abs l.first} (unsigned_abs l.first) (λ e. let f : l.first ≡ pos 0 = zero_from_abs l.first e in absurd (s.slanted f (omega (arith, linear)))) (λ h. h)

pub no_distance : (l : Line) (q : Quotient) → l.first +ℤ l.second ≡ pos 0 → IsQuotient l.constant l.first q → (q.rest ≡ pos 0 → ⊥) → (i j : ℤ) → OnLine l i j → ⊥
no_distance l q z k n i j o = n (not_whole l.first l.constant (i -ℤ j) q k (opposite l.first l.second l.constant i j z o.equal))

pub distance_is : (l : Line) (q : Quotient) (far : ℤ) → IsSmallLine l → l.first +ℤ l.second ≡ pos 0 → IsQuotient l.constant l.first q → q.rest ≡ pos 0 → far ≡ neg_ℤ q.times
    → (i j : ℤ) → (j ≡ i +ℤ far) ↔ OnLine l i j
distance_is l q far s z k r f i j =
    let t : l.first *ℤ q.times ≡ l.constant = *ℤ_comm l.first q.times ∙ omega (arith, linear, k.whole) in (
      λ e. record { equal = opposite_back l.first l.second l.constant i j z (ap (λ (x : ℤ). l.first *ℤ x) (let g : i -ℤ j ≡ q.times = omega (arith, linear) in g) ∙ t) },
      λ o. let g : l.first *ℤ (i -ℤ j) ≡ l.first *ℤ q.times = opposite l.first l.second l.constant i j z o.equal ∙ sym t in
          let h : i -ℤ j ≡ q.times = cancel l.first (i -ℤ j) q.times (first_not_zero l s z) g in
          omega (arith, linear),
    )

pub least_point : (x y trip : ℤ) (d : Dir) → IsWithin trip d x y → IsLeastLeft (AtPoint x y) trip d x y
least_point x y trip d w = record { left = (refl, refl); within = w; least = λ i j a v. inr (sym a.0, omega (arith, linear, a.1)) }
