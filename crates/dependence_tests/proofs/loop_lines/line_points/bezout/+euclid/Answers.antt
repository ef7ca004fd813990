use Rattle.std.proofs.Common.{rules, ◌≡◌, ◌*◌, arith, ap, ◌∙◌}
use Rattle.std.specs.Prelude.{ℤ, pos, ◌+ℤ◌, ◌-ℤ◌, ◌*ℤ◌, FitsSigned, unsigned_abs}
use Rattle.std.proofs.lemmas.Int.{ints, to_z-of_z, unsigned_abs-mul, fits_signed_from_abs}
use mir.Syntax.{w128}
use Rattle.dependence_tests.specs.loop_lines.line_points.Bezout.{IsBezout}
use Rattle.dependence_tests.specs.loop_lines.line_points.Quotient.{IsQuotient}
use Rattle.dependence_tests.proofs.loop_lines.LinePoints.Steps.{step_is, euclid_step, abs_sum, abs_less}
use Rattle.dependence_tests.proofs.loop_lines.line_points.bezout.+euclid.Goals as goal

pub times-requires : goal.times-requires
times-requires t c =
    let fa : FitsSigned w128 c.args.a = c.ranges.a in
    let fb : FitsSigned w128 c.args.b = c.ranges.b in
    let ft : FitsSigned w128 c.divided-quotient.result.times = search rules in
    let fr : FitsSigned w128 c.divided-quotient.result.rest = search rules in
    let ff : FitsSigned w128 c.euclid-inner.result.first = search rules in
    let fs : FitsSigned w128 c.euclid-inner.result.second = search rules in
    let fx : FitsSigned w128 c.euclid-inner.result.x = search rules in
    let fy : FitsSigned w128 c.euclid-inner.result.y = search rules in
    let nz : c.args.b ≡ pos 0 → ⊥ = omega (arith, ints) in
    let q : IsQuotient c.args.a c.args.b c.divided-quotient.result = simp to_z-of_z at c.divided-quotient.ensures in
    let i : IsBezout c.args.b c.divided-quotient.result.rest c.euclid-inner.result = simp to_z-of_z at c.euclid-inner.ensures in
    let s = step_is c.args.a c.args.b c.divided-quotient.result c.euclid-inner.result nz q i in
    simp to_z-of_z (omega (arith, s.kp_le, c.requires.a_size))

pub overflow_add-result : goal.overflow_add-result
overflow_add-result t c =
    let fa : FitsSigned w128 c.args.a = c.ranges.a in
    let fb : FitsSigned w128 c.args.b = c.ranges.b in
    let ft : FitsSigned w128 c.divided-quotient.result.times = search rules in
    let fr : FitsSigned w128 c.divided-quotient.result.rest = search rules in
    let ff : FitsSigned w128 c.euclid-inner.result.first = search rules in
    let fs : FitsSigned w128 c.euclid-inner.result.second = search rules in
    let fx : FitsSigned w128 c.euclid-inner.result.x = search rules in
    let fy : FitsSigned w128 c.euclid-inner.result.y = search rules in
    let nz : c.args.b ≡ pos 0 → ⊥ = omega (arith, ints) in
    let q : IsQuotient c.args.a c.args.b c.divided-quotient.result = simp to_z-of_z at c.divided-quotient.ensures in
    let i : IsBezout c.args.b c.divided-quotient.result.rest c.euclid-inner.result = simp to_z-of_z at c.euclid-inner.ensures in
    let s = step_is c.args.a c.args.b c.divided-quotient.result c.euclid-inner.result nz q i in
    let first : c.times.result ≡ c.divided-quotient.result.times *ℤ c.euclid-inner.result.first = simp to_z-of_z at c.times.ensures in
    let first_size : unsigned_abs c.times.result ≡ unsigned_abs c.divided-quotient.result.times * unsigned_abs c.euclid-inner.result.first = ap unsigned_abs first ∙ unsigned_abs-mul c.divided-quotient.result.times c.euclid-inner.result.first in
    let fp : FitsSigned w128 c.times.result = search rules in
    let fsum : FitsSigned w128 (c.times.result +ℤ c.euclid-inner.result.second) = fits_signed_from_abs w128 _ (omega (arith, abs_sum c.times.result c.euclid-inner.result.second, first_size, s.kp_le, s.q_le, s.rest_le, c.requires.a_size)) in
    simp to_z-of_z fsum

pub times-requires-else-b-eq0 : goal.times-requires-else-b-eq0
times-requires-else-b-eq0 t c =
    let fa : FitsSigned w128 c.args.a = c.ranges.a in
    let fb : FitsSigned w128 c.args.b = c.ranges.b in
    let ft : FitsSigned w128 c.divided-quotient.result.times = search rules in
    let fr : FitsSigned w128 c.divided-quotient.result.rest = search rules in
    let ff : FitsSigned w128 c.euclid-inner.result.first = search rules in
    let fs : FitsSigned w128 c.euclid-inner.result.second = search rules in
    let fx : FitsSigned w128 c.euclid-inner.result.x = search rules in
    let fy : FitsSigned w128 c.euclid-inner.result.y = search rules in
    let nz : c.args.b ≡ pos 0 → ⊥ = omega (arith, ints) in
    let q : IsQuotient c.args.a c.args.b c.divided-quotient.result = simp to_z-of_z at c.divided-quotient.ensures in
    let i : IsBezout c.args.b c.divided-quotient.result.rest c.euclid-inner.result = simp to_z-of_z at c.euclid-inner.ensures in
    let s = step_is c.args.a c.args.b c.divided-quotient.result c.euclid-inner.result nz q i in
    simp to_z-of_z (omega (arith, s.ky_le, s.kp_le, c.requires.a_size))

pub overflow_sub-result-else-b-eq0 : goal.overflow_sub-result-else-b-eq0
overflow_sub-result-else-b-eq0 t c =
    let fa : FitsSigned w128 c.args.a = c.ranges.a in
    let fb : FitsSigned w128 c.args.b = c.ranges.b in
    let ft : FitsSigned w128 c.divided-quotient.result.times = search rules in
    let fr : FitsSigned w128 c.divided-quotient.result.rest = search rules in
    let ff : FitsSigned w128 c.euclid-inner.result.first = search rules in
    let fs : FitsSigned w128 c.euclid-inner.result.second = search rules in
    let fx : FitsSigned w128 c.euclid-inner.result.x = search rules in
    let fy : FitsSigned w128 c.euclid-inner.result.y = search rules in
    let nz : c.args.b ≡ pos 0 → ⊥ = omega (arith, ints) in
    let q : IsQuotient c.args.a c.args.b c.divided-quotient.result = simp to_z-of_z at c.divided-quotient.ensures in
    let i : IsBezout c.args.b c.divided-quotient.result.rest c.euclid-inner.result = simp to_z-of_z at c.euclid-inner.ensures in
    let s = step_is c.args.a c.args.b c.divided-quotient.result c.euclid-inner.result nz q i in
    let other : c.times-else-b-eq0.result ≡ c.divided-quotient.result.times *ℤ c.euclid-inner.result.y = simp to_z-of_z at c.times-else-b-eq0.ensures in
    let other_size : unsigned_abs c.times-else-b-eq0.result ≡ unsigned_abs c.divided-quotient.result.times * unsigned_abs c.euclid-inner.result.y = ap unsigned_abs other ∙ unsigned_abs-mul c.divided-quotient.result.times c.euclid-inner.result.y in
    let fo : FitsSigned w128 c.times-else-b-eq0.result = search rules in
    let fless : FitsSigned w128 (c.euclid-inner.result.x -ℤ c.times-else-b-eq0.result) = fits_signed_from_abs w128 _ (omega (arith, abs_less c.euclid-inner.result.x c.times-else-b-eq0.result, other_size, s.ky_le, s.kp_le, s.q_le, s.rest_le, i.x_size, c.requires.a_size)) in
    simp to_z-of_z fless

pub returns-else-b-eq0 : goal.returns-else-b-eq0
returns-else-b-eq0 t c =
    let fa : FitsSigned w128 c.args.a = c.ranges.a in
    let fb : FitsSigned w128 c.args.b = c.ranges.b in
    let ft : FitsSigned w128 c.divided-quotient.result.times = search rules in
    let fr : FitsSigned w128 c.divided-quotient.result.rest = search rules in
    let ff : FitsSigned w128 c.euclid-inner.result.first = search rules in
    let fs : FitsSigned w128 c.euclid-inner.result.second = search rules in
    let fx : FitsSigned w128 c.euclid-inner.result.x = search rules in
    let fy : FitsSigned w128 c.euclid-inner.result.y = search rules in
    let nz : c.args.b ≡ pos 0 → ⊥ = omega (arith, ints) in
    let q : IsQuotient c.args.a c.args.b c.divided-quotient.result = simp to_z-of_z at c.divided-quotient.ensures in
    let i : IsBezout c.args.b c.divided-quotient.result.rest c.euclid-inner.result = simp to_z-of_z at c.euclid-inner.ensures in
    let s = step_is c.args.a c.args.b c.divided-quotient.result c.euclid-inner.result nz q i in
    let first : c.times.result ≡ c.divided-quotient.result.times *ℤ c.euclid-inner.result.first = simp to_z-of_z at c.times.ensures in
    let first_size : unsigned_abs c.times.result ≡ unsigned_abs c.divided-quotient.result.times * unsigned_abs c.euclid-inner.result.first = ap unsigned_abs first ∙ unsigned_abs-mul c.divided-quotient.result.times c.euclid-inner.result.first in
    let fp : FitsSigned w128 c.times.result = search rules in
    let other : c.times-else-b-eq0.result ≡ c.divided-quotient.result.times *ℤ c.euclid-inner.result.y = simp to_z-of_z at c.times-else-b-eq0.ensures in
    let other_size : unsigned_abs c.times-else-b-eq0.result ≡ unsigned_abs c.divided-quotient.result.times * unsigned_abs c.euclid-inner.result.y = ap unsigned_abs other ∙ unsigned_abs-mul c.divided-quotient.result.times c.euclid-inner.result.y in
    let fo : FitsSigned w128 c.times-else-b-eq0.result = search rules in
    let fsum : FitsSigned w128 (c.times.result +ℤ c.euclid-inner.result.second) = fits_signed_from_abs w128 _ (omega (arith, abs_sum c.times.result c.euclid-inner.result.second, first_size, s.kp_le, s.q_le, s.rest_le, c.requires.a_size)) in
    let fless : FitsSigned w128 (c.euclid-inner.result.x -ℤ c.times-else-b-eq0.result) = fits_signed_from_abs w128 _ (omega (arith, abs_less c.euclid-inner.result.x c.times-else-b-eq0.result, other_size, s.ky_le, s.kp_le, s.q_le, s.rest_le, i.x_size, c.requires.a_size)) in
    let fg : FitsSigned w128 c.euclid-inner.result.divisor = search rules in
    simp to_z-of_z (euclid_step c.args.a c.args.b c.divided-quotient.result c.euclid-inner.result _ _ nz q i (ap (λ (z : ℤ). z +ℤ c.euclid-inner.result.second) first) (ap (λ (z : ℤ). c.euclid-inner.result.x -ℤ z) other))
