use Rattle.std.proofs.Common.{rules, ◌≡◌, ◌≤◌, ◌^◌, arith, ap, ◌∙◌}
use Rattle.std.specs.Prelude.{ℤ, ◌-ℤ◌, ◌*ℤ◌, FitsSigned, unsigned_abs}
use Rattle.std.proofs.lemmas.Int.{to_z-of_z, fits_signed_from_abs, unsigned_abs-mul}
use mir.Syntax.{w128}
use Rattle.dependence_tests.proofs.loop_lines.LinePoints.Steps.{abs_less}
use Rattle.dependence_tests.proofs.loop_lines.LinePoints.Cramer.{product_41}
use Rattle.dependence_tests.proofs.loop_lines.line_points.crossing.determinant.Goals as goal

size_of : (a b c d : ℤ) → unsigned_abs a ≤ 2 ^ 41 → unsigned_abs b ≤ 2 ^ 41 → unsigned_abs c ≤ 2 ^ 41 → unsigned_abs d ≤ 2 ^ 41
    → unsigned_abs ((a *ℤ d) -ℤ (b *ℤ c)) ≤ 2 ^ 83
size_of a b c d ha hb hc hd =
    omega (arith, abs_less (a *ℤ d) (b *ℤ c), unsigned_abs-mul a d, unsigned_abs-mul b c, product_41 a d ha hd, product_41 b c hb hc)

pub overflow_sub-result : goal.overflow_sub-result
overflow_sub-result c =
    let fa : FitsSigned w128 c.args.a = c.ranges.a in
    let fb : FitsSigned w128 c.args.b = c.ranges.b in
    let fc : FitsSigned w128 c.args.c = c.ranges.c in
    let fd : FitsSigned w128 c.args.d = c.ranges.d in
    let ft : FitsSigned w128 c.times.result = search rules in
    let fu : FitsSigned w128 c.times-2.result = search rules in
    let e : c.times.result ≡ c.args.a *ℤ c.args.d = simp to_z-of_z at c.times.ensures in
    let f : c.times-2.result ≡ c.args.b *ℤ c.args.c = simp to_z-of_z at c.times-2.ensures in
    let s = size_of c.args.a c.args.b c.args.c c.args.d c.requires.a c.requires.b c.requires.c c.requires.d in
    let fs : FitsSigned w128 ((c.args.a *ℤ c.args.d) -ℤ (c.args.b *ℤ c.args.c)) = fits_signed_from_abs w128 _ (omega (arith, s)) in
    simp to_z-of_z (simp (e, f) fs)

value : (a b c d t u : ℤ) → unsigned_abs a ≤ 2 ^ 41 → unsigned_abs b ≤ 2 ^ 41 → unsigned_abs c ≤ 2 ^ 41 → unsigned_abs d ≤ 2 ^ 41
    → t ≡ a *ℤ d → u ≡ b *ℤ c → FitsSigned w128 (t -ℤ u)
value a b c d t u ha hb hc hd e f = rw (e, f) (fits_signed_from_abs w128 _ (omega (arith, size_of a b c d ha hb hc hd)))

pub returns-clause-value : goal.returns-clause-value
returns-clause-value c =
    let fa : FitsSigned w128 c.args.a = c.ranges.a in
    let fb : FitsSigned w128 c.args.b = c.ranges.b in
    let fc : FitsSigned w128 c.args.c = c.ranges.c in
    let fd : FitsSigned w128 c.args.d = c.ranges.d in
    let ft : FitsSigned w128 c.times.result = search rules in
    let fu : FitsSigned w128 c.times-2.result = search rules in
    let e : c.times.result ≡ c.args.a *ℤ c.args.d = simp to_z-of_z at c.times.ensures in
    let f : c.times-2.result ≡ c.args.b *ℤ c.args.c = simp to_z-of_z at c.times-2.ensures in
    let fs : FitsSigned w128 (c.times.result -ℤ c.times-2.result) = value c.args.a c.args.b c.args.c c.args.d _ _ c.requires.a c.requires.b c.requires.c c.requires.d e f in
    simp to_z-of_z (ap (λ (z : ℤ). z -ℤ c.times-2.result) e ∙ ap (λ (z : ℤ). c.args.a *ℤ c.args.d -ℤ z) f)

pub returns-clause-size : goal.returns-clause-size
returns-clause-size c =
    let fa : FitsSigned w128 c.args.a = c.ranges.a in
    let fb : FitsSigned w128 c.args.b = c.ranges.b in
    let fc : FitsSigned w128 c.args.c = c.ranges.c in
    let fd : FitsSigned w128 c.args.d = c.ranges.d in
    let ft : FitsSigned w128 c.times.result = search rules in
    let fu : FitsSigned w128 c.times-2.result = search rules in
    let e : c.times.result ≡ c.args.a *ℤ c.args.d = simp to_z-of_z at c.times.ensures in
    let f : c.times-2.result ≡ c.args.b *ℤ c.args.c = simp to_z-of_z at c.times-2.ensures in
    let fs : FitsSigned w128 (c.times.result -ℤ c.times-2.result) = value c.args.a c.args.b c.args.c c.args.d _ _ c.requires.a c.requires.b c.requires.c c.requires.d e f in
    simp to_z-of_z (simp (e, f) (size_of c.args.a c.args.b c.args.c c.args.d c.requires.a c.requires.b c.requires.c c.requires.d))
