use Rattle.std.proofs.Common.{rules, ◌≡◌, ◌≤◌, ◌^◌, arith, refl}
use Rattle.std.specs.Prelude.{pos, FitsSigned, ◌+ℤ◌, unsigned_abs}
use Rattle.std.proofs.lemmas.Int.{ints, to_z-of_z, fits_signed_from_abs}
use Rattle.std.proofs.Math.IntN.{neg_ℤ}
use Rattle.dependence_tests.proofs.loop_lines.LinePoints.Floors.{zero_less}
use Rattle.dependence_tests.proofs.loop_lines.LinePoints.Cramer.{abs_neg}
use mir.Syntax.{w128}
use Rattle.dependence_tests.specs.loop_lines.line_points.Quotient.{IsQuotient}
use Rattle.dependence_tests.proofs.loop_lines.LinePoints.PointsOfLine.{le_product}
use Rattle.dependence_tests.proofs.delta_test.Leaving.{first_not_zero, no_distance, distance_is}
use Rattle.dependence_tests.proofs.delta_test.iterations_left.constraint_of.Goals as goal

pub returns-then-before-ne0-clause-same : goal.returns-then-before-ne0-clause-same
returns-then-before-ne0-clause-same c i j =
    let fa : FitsSigned w128 c.args.line.first = search rules in
    let fb : FitsSigned w128 c.args.line.second = search rules in
    let fc : FitsSigned w128 c.args.line.constant = search rules in
    let fr : FitsSigned w128 c.divided-before.result.rest = search rules in
    let z : c.args.line.first +ℤ c.args.line.second ≡ pos 0 = omega (arith, ints) in
    let k : IsQuotient c.args.line.constant c.args.line.first c.divided-before.result = simp to_z-of_z at c.divided-before.ensures in
    let n : c.divided-before.result.rest ≡ pos 0 → ⊥ = omega (arith, ints) in
    (λ x. absurd x, λ o. no_distance c.args.line c.divided-before.result z k n i j o)

pub overflow_sub-result : goal.overflow_sub-result
overflow_sub-result c =
    let fa : FitsSigned w128 c.args.line.first = search rules in
    let fb : FitsSigned w128 c.args.line.second = search rules in
    let fc : FitsSigned w128 c.args.line.constant = search rules in
    let fr : FitsSigned w128 c.divided-before.result.rest = search rules in
    let ft : FitsSigned w128 c.divided-before.result.times = search rules in
    let z : c.args.line.first +ℤ c.args.line.second ≡ pos 0 = omega (arith, ints) in
    let k : IsQuotient c.args.line.constant c.args.line.first c.divided-before.result = simp to_z-of_z at c.divided-before.ensures in
    let t : unsigned_abs c.divided-before.result.times ≤ 2 ^ 41 =
    omega (arith, k.sizes, le_product (unsigned_abs c.divided-before.result.times) (unsigned_abs c.args.line.first) (first_not_zero c.args.line c.requires z), c.requires.constant) in
    let nf : FitsSigned w128 (neg_ℤ c.divided-before.result.times) = fits_signed_from_abs w128 _ (omega (arith, abs_neg c.divided-before.result.times)) in
    simp to_z-of_z (simp zero_less nf)

pub returns-clause-same : goal.returns-clause-same
returns-clause-same c i j =
    let fa : FitsSigned w128 c.args.line.first = search rules in
    let fb : FitsSigned w128 c.args.line.second = search rules in
    let fc : FitsSigned w128 c.args.line.constant = search rules in
    let fr : FitsSigned w128 c.divided-before.result.rest = search rules in
    let ft : FitsSigned w128 c.divided-before.result.times = search rules in
    let z : c.args.line.first +ℤ c.args.line.second ≡ pos 0 = omega (arith, ints) in
    let k : IsQuotient c.args.line.constant c.args.line.first c.divided-before.result = simp to_z-of_z at c.divided-before.ensures in
    let t : unsigned_abs c.divided-before.result.times ≤ 2 ^ 41 =
    omega (arith, k.sizes, le_product (unsigned_abs c.divided-before.result.times) (unsigned_abs c.args.line.first) (first_not_zero c.args.line c.requires z), c.requires.constant) in
    let nf : FitsSigned w128 (neg_ℤ c.divided-before.result.times) = fits_signed_from_abs w128 _ (omega (arith, abs_neg c.divided-before.result.times)) in
    let r : c.divided-before.result.rest ≡ pos 0 = omega (arith, ints) in
    simp (zero_less, to_z-of_z) (distance_is c.args.line c.divided-before.result (neg_ℤ c.divided-before.result.times) c.requires z k r refl i j)

pub returns-clause-constraint : goal.returns-clause-constraint
returns-clause-constraint c =
    let fa : FitsSigned w128 c.args.line.first = search rules in
    let fb : FitsSigned w128 c.args.line.second = search rules in
    let fc : FitsSigned w128 c.args.line.constant = search rules in
    let fr : FitsSigned w128 c.divided-before.result.rest = search rules in
    let ft : FitsSigned w128 c.divided-before.result.times = search rules in
    let z : c.args.line.first +ℤ c.args.line.second ≡ pos 0 = omega (arith, ints) in
    let k : IsQuotient c.args.line.constant c.args.line.first c.divided-before.result = simp to_z-of_z at c.divided-before.ensures in
    let t : unsigned_abs c.divided-before.result.times ≤ 2 ^ 41 =
    omega (arith, k.sizes, le_product (unsigned_abs c.divided-before.result.times) (unsigned_abs c.args.line.first) (first_not_zero c.args.line c.requires z), c.requires.constant) in
    let nf : FitsSigned w128 (neg_ℤ c.divided-before.result.times) = fits_signed_from_abs w128 _ (omega (arith, abs_neg c.divided-before.result.times)) in
    simp (zero_less, to_z-of_z) (omega (arith, abs_neg c.divided-before.result.times))
