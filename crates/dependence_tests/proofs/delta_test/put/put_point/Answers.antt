use Rattle.std.proofs.Common.{rules, ◌≡◌}
use Rattle.std.specs.Prelude.{◌-ℤ◌, ◌*ℤ◌, FitsSigned}
use Rattle.std.proofs.lemmas.Int.{to_z-of_z}
use mir.Syntax.{w64, w128}
use Rattle.dependence_tests.proofs.delta_test.Terms.{point_value}
use Rattle.dependence_tests.proofs.delta_test.put.put_point.Goals as goal

pub returns-then-unsigned_abs-le-LARGEST-2-clause-value : goal.returns-then-unsigned_abs-le-LARGEST-2-clause-value
returns-then-unsigned_abs-le-LARGEST-2-clause-value c i j a =
    let fa : FitsSigned w64 c.args.first = c.ranges.first in
    let fb : FitsSigned w64 c.args.second = c.ranges.second in
    let fi : FitsSigned w128 c.in-AtPoint.i = search rules in
    let fj : FitsSigned w128 c.in-AtPoint.j = search rules in
    let k : c.at_point.result.constant ≡ c.args.first *ℤ c.in-AtPoint.i -ℤ c.args.second *ℤ c.in-AtPoint.j = simp to_z-of_z at c.at_point.ensures.constant in
    let b : (i ≡ c.in-AtPoint.i) × (j ≡ c.in-AtPoint.j) = rw c.in-AtPoint.is at a in
    point_value c.at_point.result c.args.first c.args.second c.in-AtPoint.i c.in-AtPoint.j i j c.at_point.ensures.first c.at_point.ensures.second k b.0 b.1
