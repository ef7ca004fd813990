-- The end of a stretch at which a line's point is the least one.
use Rattle.std.proofs.Common.{◌≡◌, ◌≤◌, ◌^◌, inl, inr, zero, suc, ap, subst, arith, sym, ◌∙◌}
use Rattle.std.specs.Prelude.{ℤ, pos, negsuc, ◌+ℤ◌, ◌-ℤ◌, ◌*ℤ◌, ◌≤ℤ◌, ◌<ℤ◌, unsigned_abs}
use Rattle.std.proofs.Math.IntN.{neg_ℤ, zero-*ℤ}
use Rattle.std.proofs.lemmas.Int.{ints, by_lt_z}
use Rattle.subscripts.specs.declared.affine.Dir.{Dir}
use Rattle.dependence_tests.specs.loop_lines.line_points.Lines.{OnLine, IsPointAt, ArePoints}
use Rattle.dependence_tests.specs.loop_lines.line_points.Least.{IsWithin, IsAtMost, HasNone, IsLeast}
use Rattle.dependence_tests.specs.loop_lines.line_points.Stretch.{IsIn}
use Rattle.dependence_tests.specs.declared.loop_lines.line_points.stretch.Stretch.{Stretch}
use Rattle.dependence_tests.specs.declared.loop_lines.line_points.points.Line.{Line}
use Rattle.dependence_tests.specs.declared.loop_lines.line_points.points.Points.{Points}
use Rattle.dependence_tests.proofs.loop_lines.LinePoints.Ring.{linear, times_plus, times_neg, neg_times}

-- a product of two positive numbers is positive
positive_product : (a b : ℤ) → pos 0 <ℤ a → pos 0 <ℤ b → pos 0 <ℤ (a *ℤ b)
positive_product (pos zero) b h k = absurd (omega (arith, ints))
positive_product (pos (suc a)) (pos zero) h k = absurd (omega (arith, ints))
positive_product (pos (suc a)) (pos (suc b)) h k = omega (arith, ints)
positive_product (pos (suc a)) (negsuc b) h k = absurd (omega (arith, ints))
positive_product (negsuc a) b h k = absurd (omega (arith, ints))

pub times_below : (k a b : ℤ) → pos 0 <ℤ k → a <ℤ b → (k *ℤ a) <ℤ (k *ℤ b)
times_below k a b h l =
    let p : pos 0 <ℤ (k *ℤ (b -ℤ a)) = positive_product k (b -ℤ a) h (omega (arith, linear)) in
    let q = simp (times_plus, times_neg) at p in
    omega (arith, linear)

-- the numbers of a stretch are at least its low end and at most its high one: by cases, equal to the end or beyond it
pub from_low : {P : Type 0} (a s : ℤ) → a ≤ℤ s → (a ≡ s → P) → (a <ℤ s → P) → P
from_low a s h f g = by_lt_z a s g (λ k. f (omega (arith, linear)))

same_first : (i ai at s : ℤ) → ai ≡ pos 0 → i +ℤ ai *ℤ at ≡ i +ℤ ai *ℤ s
same_first i ai at s z =
    ap (λ (k : ℤ). i +ℤ k *ℤ at) z ∙ ap (λ (k : ℤ). i +ℤ k) (zero-*ℤ at) ∙ sym (ap (λ (k : ℤ). i +ℤ k) (zero-*ℤ s)) ∙ sym (ap (λ (k : ℤ). i +ℤ k *ℤ s) z)

-- a point further along in the direction of a positive step
pub ahead_i : (i j ai aj at s : ℤ) → pos 0 <ℤ ai → at ≤ℤ s → IsAtMost (i +ℤ ai *ℤ at) (j +ℤ aj *ℤ at) (i +ℤ ai *ℤ s) (j +ℤ aj *ℤ s)
ahead_i i j ai aj at s h l =
    from_low at s l
    (λ e. inr (ap (λ (z : ℤ). i +ℤ ai *ℤ z) e, let f : j +ℤ aj *ℤ at ≡ j +ℤ aj *ℤ s = ap (λ (z : ℤ). j +ℤ aj *ℤ z) e in omega (arith, linear)))
    (λ b. let c : (ai *ℤ at) <ℤ (ai *ℤ s) = times_below ai at s h b in inl (omega (arith, linear)))

pub ahead_j : (i j ai aj at s : ℤ) → ai ≡ pos 0 → pos 0 <ℤ aj → at ≤ℤ s → IsAtMost (i +ℤ ai *ℤ at) (j +ℤ aj *ℤ at) (i +ℤ ai *ℤ s) (j +ℤ aj *ℤ s)
ahead_j i j ai aj at s z h l =
    inr (
      same_first i ai at s z,
      from_low at s l
          (λ e. let f : j +ℤ aj *ℤ at ≡ j +ℤ aj *ℤ s = ap (λ (z : ℤ). j +ℤ aj *ℤ z) e in omega (arith, linear))
          (λ b. let c : (aj *ℤ at) <ℤ (aj *ℤ s) = times_below aj at s h b in omega (arith, linear)),
    )

negated : (k s : ℤ) → k *ℤ s ≡ neg_ℤ k *ℤ neg_ℤ s
negated k s = simp (neg_times, times_neg) (omega (arith, linear))

-- a point behind in the direction of a negative step: turn both signs
pub behind_i : (i j ai aj at s : ℤ) → ai <ℤ pos 0 → s ≤ℤ at → IsAtMost (i +ℤ ai *ℤ at) (j +ℤ aj *ℤ at) (i +ℤ ai *ℤ s) (j +ℤ aj *ℤ s)
behind_i i j ai aj at s h l =
    rw (negated ai at, negated aj at, negated ai s, negated aj s)
    (ahead_i i j (neg_ℤ ai) (neg_ℤ aj) (neg_ℤ at) (neg_ℤ s) (omega (arith, linear)) (omega (arith, linear)))

pub behind_j : (i j ai aj at s : ℤ) → ai ≡ pos 0 → aj <ℤ pos 0 → s ≤ℤ at → IsAtMost (i +ℤ ai *ℤ at) (j +ℤ aj *ℤ at) (i +ℤ ai *ℤ s) (j +ℤ aj *ℤ s)
behind_j i j ai aj at s z h l =
    rw (negated ai at, negated aj at, negated ai s, negated aj s)
    (ahead_j i j (neg_ℤ ai) (neg_ℤ aj) (neg_ℤ at) (neg_ℤ s) (omega (arith, linear)) (omega (arith, linear)) (omega (arith, linear)))

-- a point on the line within the trip has its number in the stretch
pub in_stretch : (l : Line) (p : Points) (r : Stretch) (trip : ℤ) (d : Dir) (i j : ℤ) → ArePoints l p → unsigned_abs trip ≤ 2 ^ 64
    → ((s : ℤ) → unsigned_abs s ≤ 2 ^ 110 → IsWithin trip d (p.i +ℤ p.along_i *ℤ s) (p.j +ℤ p.along_j *ℤ s) → IsIn r s)
    → OnLine l i j → IsWithin trip d i j → (s : ℤ) × (IsPointAt p s i j × IsIn r s)
in_stretch l p r trip d i j a t every o w =
    let mi : unsigned_abs i ≤ 2 ^ 64 = omega (arith, ints, w.first.low, w.first.high) in
    let mj : unsigned_abs j ≤ 2 ^ 64 = omega (arith, ints, w.second.low, w.second.high) in
    let q = a.every i j o mi mj in
    let s : ℤ = q.0 in
    let at : IsPointAt p s i j = q.1.0 in
    let x : IsWithin trip d (p.i +ℤ p.along_i *ℤ s) (p.j +ℤ p.along_j *ℤ s) =
    subst (λ (z : ℤ). IsWithin trip d z (p.j +ℤ p.along_j *ℤ s)) at.i_is (subst (λ (z : ℤ). IsWithin trip d i z) at.j_is w) in
    (s, (at, every s q.1.1 x))

pub has_none : (l : Line) (p : Points) (r : Stretch) (trip : ℤ) (d : Dir) → ArePoints l p → unsigned_abs trip ≤ 2 ^ 64
    → ((s : ℤ) → unsigned_abs s ≤ 2 ^ 110 → IsWithin trip d (p.i +ℤ p.along_i *ℤ s) (p.j +ℤ p.along_j *ℤ s) → IsIn r s)
    → r.high <ℤ r.low → HasNone l trip d
has_none l p r trip d a t every e i j o w =
    let q = in_stretch l p r trip d i j a t every o w in
    let n : IsIn r q.0 = q.1.1 in
    let x : r.low ≤ℤ q.0 = n.low in
    let y : q.0 ≤ℤ r.high = n.high in
    omega (arith, linear)

carried : (p : Points) (at s i j i' j' : ℤ) → IsPointAt p at i j → IsPointAt p s i' j'
    → IsAtMost (p.i +ℤ p.along_i *ℤ at) (p.j +ℤ p.along_j *ℤ at) (p.i +ℤ p.along_i *ℤ s) (p.j +ℤ p.along_j *ℤ s) → IsAtMost i j i' j'
carried p at s i j i' j' w u h = rw (w.i_is, w.j_is, u.i_is, u.j_is) h

pub is_least : (l : Line) (p : Points) (r : Stretch) (trip : ℤ) (d : Dir) (at i j : ℤ) → ArePoints l p → unsigned_abs trip ≤ 2 ^ 64
    → ((s : ℤ) → unsigned_abs s ≤ 2 ^ 110 → IsWithin trip d (p.i +ℤ p.along_i *ℤ s) (p.j +ℤ p.along_j *ℤ s) → IsIn r s)
    → ((s : ℤ) → IsIn r s → IsWithin trip d (p.i +ℤ p.along_i *ℤ s) (p.j +ℤ p.along_j *ℤ s))
    → IsIn r at → ((s : ℤ) → IsIn r s → IsAtMost (p.i +ℤ p.along_i *ℤ at) (p.j +ℤ p.along_j *ℤ at) (p.i +ℤ p.along_i *ℤ s) (p.j +ℤ p.along_j *ℤ s))
    → IsPointAt p at i j → IsLeast l trip d i j
is_least l p r trip d at i j a t every only n first w =
    record {
      on = a.on at i j w;
      within = rw (w.i_is, w.j_is) (only at n);
      least = λ i' j' o v.
          let q = in_stretch l p r trip d i' j' a t every o v in
          let u : IsPointAt p q.0 i' j' = q.1.0 in
          carried p at q.0 i j i' j' w u (first q.0 q.1.1);
    }
