use Rattle.std.proofs.Common.{rules, refl}
use Rattle.std.specs.Prelude.{FitsSigned}
use Rattle.std.proofs.lemmas.Int.{to_z-of_z}
use mir.Syntax.{w128}
use Rattle.dependence_tests.specs.loop_lines.line_points.Least.{IsWithin}
use Rattle.dependence_tests.specs.declared.delta_test.constraint.Constraint.TheVariants.{AtDistance, AlongLine}
use Rattle.dependence_tests.proofs.delta_test.Leaving.{least_along, least_point}
use Rattle.dependence_tests.proofs.delta_test.iterations_left.least_left.Goals as goal

pub returns-then-are_within : goal.returns-then-are_within
returns-then-are_within c =
    let fi : FitsSigned w128 c.in-AtPoint.i = search rules in
    let fj : FitsSigned w128 c.in-AtPoint.j = search rules in
    let ft : FitsSigned w128 c.args.trip = c.ranges.trip in
    let w : IsWithin c.args.trip c.args.dir c.in-AtPoint.i c.in-AtPoint.j = (simp to_z-of_z at c.if-are_within.ensures).0 refl in
    simp to_z-of_z (rw c.in-AtPoint.is (least_point c.in-AtPoint.i c.in-AtPoint.j c.args.trip c.args.dir w))

pub returns-in-AtDistance : goal.returns-in-AtDistance
returns-in-AtDistance c =
    let fd : FitsSigned w128 c.in-AtDistance.distance = search rules in
    let ft : FitsSigned w128 c.args.trip = c.ranges.trip in
    let s = simp to_z-of_z at c.line_of_distance.ensures.line in
    let e = simp to_z-of_z at c.least_on_line.ensures in
    rw c.in-AtDistance.is (least_along (AtDistance c.in-AtDistance.distance) c.line_of_distance.result c.args.trip c.args.dir c.least_on_line.result s e)

pub returns-in-AlongLine : goal.returns-in-AlongLine
returns-in-AlongLine c =
    let ft : FitsSigned w128 c.args.trip = c.ranges.trip in
    let e = simp to_z-of_z at c.least_on_line-in-AlongLine.ensures in
    rw c.in-AlongLine.is (least_along (AlongLine c.in-AlongLine.line) c.in-AlongLine.line c.args.trip c.args.dir c.least_on_line-in-AlongLine.result (λ i j. (λ a. a, λ a. a)) e)
