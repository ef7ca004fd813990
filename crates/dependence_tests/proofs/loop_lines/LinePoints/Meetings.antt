-- What the inequalities of a trip and of a direction leave of a stretch.
use Rattle.std.proofs.Common.{◌≡◌, ◌↔◌, ap, arith, ◌∙◌}
use Rattle.std.specs.Prelude.{ℤ, pos, ◌+ℤ◌, ◌-ℤ◌, ◌*ℤ◌, ◌≤ℤ◌, ◌<ℤ◌}
use Rattle.std.proofs.Math.IntN.{neg_ℤ}
use Rattle.subscripts.specs.Iterations.{IsRelated}
use Rattle.dependence_tests.specs.loop_lines.line_points.Least.{WithinTrip}
use Rattle.subscripts.specs.declared.affine.Dir.TheVariants.{Lt, Eq, Gt}
use Rattle.dependence_tests.specs.loop_lines.line_points.Stretch.{IsIn}
use Rattle.dependence_tests.specs.declared.loop_lines.line_points.stretch.Stretch.{Stretch}
use Rattle.dependence_tests.proofs.loop_lines.LinePoints.Ring.{neg_times, plus_times, linear}

-- an inequality of the code, with its numbers as they are
abbrev pub Leaves : Stretch → Stretch → ℤ → ℤ → ℤ → Type 0
Leaves r r' k m s = IsIn r' s ↔ (IsIn r s × (m ≤ℤ (k *ℤ s)))

pub trip_left : (r r1 r2 : Stretch) (at along trip k1 m1 k2 m2 s : ℤ) → k1 ≡ along → m1 ≡ pos 1 -ℤ at → k2 ≡ neg_ℤ along → m2 ≡ at -ℤ trip
    → Leaves r r1 k1 m1 s → Leaves r1 r2 k2 m2 s → IsIn r2 s ↔ (IsIn r s × WithinTrip trip (at +ℤ along *ℤ s))
trip_left r r1 r2 at along trip k1 m1 k2 m2 s ek1 em1 ek2 em2 (out1, in1) (out2, in2) =
    let e1 : k1 *ℤ s ≡ along *ℤ s = ap (λ (z : ℤ). z *ℤ s) ek1 in
    let e2 : k2 *ℤ s ≡ neg_ℤ (along *ℤ s) = ap (λ (z : ℤ). z *ℤ s) ek2 ∙ neg_times along s in (
      λ i. let a = out2 i in
          let b = out1 a.0 in
          let x : m2 ≤ℤ (k2 *ℤ s) = a.1 in
          let y : m1 ≤ℤ (k1 *ℤ s) = b.1 in
          (b.0, record { low = omega (arith, linear); high = omega (arith, linear) }),
      λ p. let l : pos 1 ≤ℤ (at +ℤ along *ℤ s) = p.1.low in
          let h : (at +ℤ along *ℤ s) ≤ℤ trip = p.1.high in
          in2 (in1 (p.0, omega (arith, linear)), omega (arith, linear)),
    )

-- the distance of a point's iterations
distance : (i j ai aj s : ℤ) → (j +ℤ aj *ℤ s) -ℤ (i +ℤ ai *ℤ s) ≡ (j -ℤ i) +ℤ (aj -ℤ ai) *ℤ s
distance i j ai aj s = rw (plus_times s aj (neg_ℤ ai), neg_times ai s) (omega (arith, linear))

pub before_left : (r r1 : Stretch) (i j ai aj k m s : ℤ) → k ≡ aj -ℤ ai → m ≡ pos 1 -ℤ (j -ℤ i)
    → Leaves r r1 k m s → IsIn r1 s ↔ (IsIn r s × IsRelated Lt (i +ℤ ai *ℤ s) (j +ℤ aj *ℤ s))
before_left r r1 i j ai aj k m s ek em (out, back) =
    let e : k *ℤ s ≡ (aj -ℤ ai) *ℤ s = ap (λ (z : ℤ). z *ℤ s) ek in
    let d = distance i j ai aj s in (
      λ n. let x : m ≤ℤ (k *ℤ s) = (out n).1 in ((out n).0, omega (arith, linear)),
      λ p. let x : (i +ℤ ai *ℤ s) <ℤ (j +ℤ aj *ℤ s) = p.1 in back (p.0, omega (arith, linear)),
    )

pub after_left : (r r1 : Stretch) (i j ai aj k m s : ℤ) → k ≡ neg_ℤ (aj -ℤ ai) → m ≡ pos 1 +ℤ (j -ℤ i)
    → Leaves r r1 k m s → IsIn r1 s ↔ (IsIn r s × IsRelated Gt (i +ℤ ai *ℤ s) (j +ℤ aj *ℤ s))
after_left r r1 i j ai aj k m s ek em (out, back) =
    let e : k *ℤ s ≡ neg_ℤ ((aj -ℤ ai) *ℤ s) = ap (λ (z : ℤ). z *ℤ s) ek ∙ neg_times (aj -ℤ ai) s in
    let d = distance i j ai aj s in (
      λ n. let x : m ≤ℤ (k *ℤ s) = (out n).1 in ((out n).0, omega (arith, linear)),
      λ p. let x : (j +ℤ aj *ℤ s) <ℤ (i +ℤ ai *ℤ s) = p.1 in back (p.0, omega (arith, linear)),
    )

pub same_left : (r r1 r2 : Stretch) (i j ai aj k1 m1 k2 m2 s : ℤ) → k1 ≡ aj -ℤ ai → m1 ≡ neg_ℤ (j -ℤ i) → k2 ≡ neg_ℤ (aj -ℤ ai) → m2 ≡ j -ℤ i
    → Leaves r r1 k1 m1 s → Leaves r1 r2 k2 m2 s → IsIn r2 s ↔ (IsIn r s × IsRelated Eq (i +ℤ ai *ℤ s) (j +ℤ aj *ℤ s))
same_left r r1 r2 i j ai aj k1 m1 k2 m2 s ek1 em1 ek2 em2 (out1, in1) (out2, in2) =
    let e1 : k1 *ℤ s ≡ (aj -ℤ ai) *ℤ s = ap (λ (z : ℤ). z *ℤ s) ek1 in
    let e2 : k2 *ℤ s ≡ neg_ℤ ((aj -ℤ ai) *ℤ s) = ap (λ (z : ℤ). z *ℤ s) ek2 ∙ neg_times (aj -ℤ ai) s in
    let d = distance i j ai aj s in (
      λ n. let a = out2 n in
          let b = out1 a.0 in
          let x : m2 ≤ℤ (k2 *ℤ s) = a.1 in
          let y : m1 ≤ℤ (k1 *ℤ s) = b.1 in
          (b.0, omega (arith, linear)),
      λ p. let x : (i +ℤ ai *ℤ s) ≡ (j +ℤ aj *ℤ s) = p.1 in
          in2 (in1 (p.0, omega (arith, linear)), omega (arith, linear)),
    )
