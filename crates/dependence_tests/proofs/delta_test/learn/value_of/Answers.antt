use Rattle.std.proofs.Common.{rules, ◌≡◌, ◌≤◌, ◌^◌, ◌∙◌, arith, sym}
use Rattle.std.specs.Prelude.{pos, ◌*ℤ◌, FitsSigned, unsigned_abs}
use Rattle.std.proofs.lemmas.Int.{ints, to_z-of_z}
use mir.Syntax.{w128}
use Rattle.dependence_tests.specs.loop_lines.line_points.Quotient.{IsQuotient}
use Rattle.dependence_tests.proofs.loop_lines.LinePoints.Cramer.{not_whole, quotient_solves}
use Rattle.dependence_tests.proofs.loop_lines.LinePoints.PointsOfLine.{cancel, le_product}
use Rattle.dependence_tests.proofs.loop_lines.LinePoints.Quotients.{abs_positive}
use Rattle.dependence_tests.proofs.delta_test.learn.value_of.Goals as goal

pub returns-then-value-ne0 : goal.returns-then-value-ne0
returns-then-value-ne0 c i e =
    let fa : FitsSigned w128 c.args.coefficient = c.ranges.coefficient in
    let fc : FitsSigned w128 c.args.constant = c.ranges.constant in
    let fr : FitsSigned w128 c.divided-value.result.rest = search rules in
    let q : IsQuotient c.args.constant c.args.coefficient c.divided-value.result = simp to_z-of_z at c.divided-value.ensures in
    let z : c.divided-value.result.rest ≡ pos 0 = not_whole c.args.coefficient c.args.constant i c.divided-value.result q e in
    absurd (omega (arith, ints, c.if-value-ne0.true))

pub returns : goal.returns
returns c =
    let fa : FitsSigned w128 c.args.coefficient = c.ranges.coefficient in
    let fc : FitsSigned w128 c.args.constant = c.ranges.constant in
    let fr : FitsSigned w128 c.divided-value.result.rest = search rules in
    let ft : FitsSigned w128 c.divided-value.result.times = search rules in
    let q : IsQuotient c.args.constant c.args.coefficient c.divided-value.result = simp to_z-of_z at c.divided-value.ensures in
    let z : c.divided-value.result.rest ≡ pos 0 = omega (arith, ints, c.if-value-ne0.false) in
    let s : c.args.coefficient *ℤ c.divided-value.result.times ≡ c.args.constant = quotient_solves c.args.coefficient c.args.constant c.divided-value.result q z in
    let p = abs_positive c.args.coefficient c.requires.coefficient in
    let t : unsigned_abs c.divided-value.result.times ≤ 2 ^ 41 = omega (arith, q.sizes, le_product (unsigned_abs c.divided-value.result.times) (unsigned_abs c.args.coefficient) p, c.requires.constant) in
    simp to_z-of_z (record { alone = λ i e. cancel c.args.coefficient i c.divided-value.result.times p (e ∙ sym s); size = t })
