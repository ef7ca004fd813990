use Rattle.std.proofs.Common.{rules, ◌≡◌, ◌≤◌, ◌^◌, ◌↔◌, arith, ap, ◌∙◌, sym, IsTrue, nat_eq}
use Rattle.std.specs.Prelude.{ℤ, ◌+ℤ◌, ◌*ℤ◌, FitsSigned, unsigned_abs}
use Rattle.std.proofs.lemmas.Int.{to_z-of_z, fits_signed_from_abs, unsigned_abs-mul}
use Rattle.std.proofs.lemmas.Nat.{mul-le}
use mir.Syntax.{w128}
use mir.Val.{of_z}
use Rattle.dependence_tests.specs.loop_lines.line_points.Lines.{OnLine}
use Rattle.dependence_tests.proofs.loop_lines.LinePoints.Steps.{abs_sum}
use Rattle.dependence_tests.proofs.delta_test.Tests.{same_test}
use Rattle.dependence_tests.proofs.delta_test.constraint.is_on.Goals as goal

sum_fits : (a b i j t u : ℤ) → unsigned_abs a ≤ 2 ^ 41 → unsigned_abs b ≤ 2 ^ 41 → unsigned_abs i ≤ 2 ^ 83 → unsigned_abs j ≤ 2 ^ 83
    → t ≡ a *ℤ i → u ≡ b *ℤ j → FitsSigned w128 (t +ℤ u)
sum_fits a b i j t u ha hb hi hj e f =
    rw (e, f) (fits_signed_from_abs w128 _ (omega (
      arith,
      abs_sum (a *ℤ i) (b *ℤ j),
      unsigned_abs-mul a i,
      unsigned_abs-mul b j,
      mul-le (unsigned_abs a) (unsigned_abs i) (2 ^ 41) (2 ^ 83) ha hi,
      mul-le (unsigned_abs b) (unsigned_abs j) (2 ^ 41) (2 ^ 83) hb hj,
    )))

pub overflow_add-result : goal.overflow_add-result
overflow_add-result c =
    let fa : FitsSigned w128 c.args.line.first = search rules in
    let fb : FitsSigned w128 c.args.line.second = search rules in
    let fi : FitsSigned w128 c.args.i = c.ranges.i in
    let fj : FitsSigned w128 c.args.j = c.ranges.j in
    let ft : FitsSigned w128 c.times.result = search rules in
    let fu : FitsSigned w128 c.times-2.result = search rules in
    let e : c.times.result ≡ c.args.line.first *ℤ c.args.i = simp to_z-of_z at c.times.ensures in
    let f : c.times-2.result ≡ c.args.line.second *ℤ c.args.j = simp to_z-of_z at c.times-2.ensures in
    simp to_z-of_z (sum_fits c.args.line.first c.args.line.second c.args.i c.args.j _ _ c.requires.line.first c.requires.line.second c.requires.i c.requires.j e f)

pub returns : goal.returns
returns c =
    let fa : FitsSigned w128 c.args.line.first = search rules in
    let fb : FitsSigned w128 c.args.line.second = search rules in
    let fc : FitsSigned w128 c.args.line.constant = search rules in
    let fi : FitsSigned w128 c.args.i = c.ranges.i in
    let fj : FitsSigned w128 c.args.j = c.ranges.j in
    let ft : FitsSigned w128 c.times.result = search rules in
    let fu : FitsSigned w128 c.times-2.result = search rules in
    let e : c.times.result ≡ c.args.line.first *ℤ c.args.i = simp to_z-of_z at c.times.ensures in
    let f : c.times-2.result ≡ c.args.line.second *ℤ c.args.j = simp to_z-of_z at c.times-2.ensures in
    let fs = sum_fits c.args.line.first c.args.line.second c.args.i c.args.j _ _ c.requires.line.first c.requires.line.second c.requires.i c.requires.j e f in
    let s : c.times.result +ℤ c.times-2.result ≡ c.args.line.first *ℤ c.args.i +ℤ c.args.line.second *ℤ c.args.j =
    ap (λ (z : ℤ). z +ℤ c.times-2.result) e ∙ ap (λ (z : ℤ). c.args.line.first *ℤ c.args.i +ℤ z) f in
    let t : IsTrue (nat_eq (of_z w128 (c.times.result +ℤ c.times-2.result)) (of_z w128 c.args.line.constant)) ↔ (c.times.result +ℤ c.times-2.result ≡ c.args.line.constant) =
    same_test (c.times.result +ℤ c.times-2.result) c.args.line.constant fs fc in
    simp to_z-of_z (
      λ h. record { equal = sym s ∙ t.0 h },
      λ (o : OnLine c.args.line c.args.i c.args.j). t.1 (s ∙ o.equal),
    )
