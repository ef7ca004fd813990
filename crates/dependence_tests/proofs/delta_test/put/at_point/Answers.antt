use Rattle.std.proofs.Common.{rules, ◌≡◌, ◌≤◌, ◌^◌, ◌∙◌, ap, arith}
use Rattle.std.specs.Prelude.{ℤ, ◌-ℤ◌, ◌*ℤ◌, FitsSigned, unsigned_abs}
use Rattle.std.proofs.lemmas.Int.{to_z-of_z, fits_signed_from_abs, unsigned_abs-mul}
use Rattle.std.proofs.lemmas.Nat.{mul-le}
use mir.Syntax.{w64, w128}
use Rattle.dependence_tests.proofs.loop_lines.LinePoints.Steps.{abs_less}
use Rattle.dependence_tests.proofs.delta_test.put.at_point.Goals as goal

record IsPoint (a b i j t u : ℤ) : Type 0 where
  is : t -ℤ u ≡ a *ℤ i -ℤ b *ℤ j
  size : unsigned_abs (t -ℤ u) ≤ 2 ^ 83

is_point : (a b i j t u : ℤ) → unsigned_abs a ≤ 2 ^ 41 → unsigned_abs b ≤ 2 ^ 41 → unsigned_abs i ≤ 2 ^ 41 → unsigned_abs j ≤ 2 ^ 41 → t ≡ a *ℤ i → u ≡ b *ℤ j → IsPoint a b i j t u
is_point a b i j t u ha hb hi hj e f = record {
  is = ap (λ (z : ℤ). z -ℤ u) e ∙ ap (λ (z : ℤ). a *ℤ i -ℤ z) f;
  size = rw (e, f) (omega (
    arith,
    abs_less (a *ℤ i) (b *ℤ j),
    unsigned_abs-mul a i,
    unsigned_abs-mul b j,
    mul-le (unsigned_abs a) (unsigned_abs i) (2 ^ 41) (2 ^ 41) ha hi,
    mul-le (unsigned_abs b) (unsigned_abs j) (2 ^ 41) (2 ^ 41) hb hj,
  ));
}

point : (c : goal.After-times-2) → IsPoint c.args.first c.args.second c.args.i c.args.j c.times.result c.times-2.result
point c =
    let fa : FitsSigned w64 c.args.first = c.ranges.first in
    let fb : FitsSigned w64 c.args.second = c.ranges.second in
    let ga : FitsSigned w128 c.from.result = search rules in
    let gb : FitsSigned w128 c.from-2.result = search rules in
    let fi : FitsSigned w128 c.args.i = c.ranges.i in
    let fj : FitsSigned w128 c.args.j = c.ranges.j in
    let ea : c.from.result ≡ c.args.first = simp to_z-of_z at c.from.ensures in
    let eb : c.from-2.result ≡ c.args.second = simp to_z-of_z at c.from-2.ensures in
    let e : c.times.result ≡ c.from.result *ℤ c.args.i = simp to_z-of_z at c.times.ensures in
    let f : c.times-2.result ≡ c.from-2.result *ℤ c.args.j = simp to_z-of_z at c.times-2.ensures in
    is_point c.args.first c.args.second c.args.i c.args.j c.times.result c.times-2.result c.requires.first c.requires.second c.requires.i c.requires.j
    (e ∙ ap (λ (z : ℤ). z *ℤ c.args.i) ea) (f ∙ ap (λ (z : ℤ). z *ℤ c.args.j) eb)

pub overflow_sub-result : goal.overflow_sub-result
overflow_sub-result c =
    let ft : FitsSigned w128 c.times.result = search rules in
    let fu : FitsSigned w128 c.times-2.result = search rules in
    let p = point c in
    simp to_z-of_z (fits_signed_from_abs w128 _ (omega (arith, p.size)))

pub returns-clause-constant : goal.returns-clause-constant
returns-clause-constant c =
    let ft : FitsSigned w128 c.times.result = search rules in
    let fu : FitsSigned w128 c.times-2.result = search rules in
    let p = point c in
    let fs : FitsSigned w128 (c.times.result -ℤ c.times-2.result) = fits_signed_from_abs w128 _ (omega (arith, p.size)) in
    simp to_z-of_z p.is

pub returns-clause-size : goal.returns-clause-size
returns-clause-size c =
    let ft : FitsSigned w128 c.times.result = search rules in
    let fu : FitsSigned w128 c.times-2.result = search rules in
    let p = point c in
    let fs : FitsSigned w128 (c.times.result -ℤ c.times-2.result) = fits_signed_from_abs w128 _ (omega (arith, p.size)) in
    simp to_z-of_z p.size
