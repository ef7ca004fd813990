use Rattle.std.proofs.Common.{rules, ◌≡◌}
use Rattle.std.specs.Prelude.{pos, ◌+ℤ◌, ◌-ℤ◌, ◌*ℤ◌, FitsSigned}
use Rattle.std.proofs.lemmas.Int.{to_z-of_z}
use mir.Syntax.{w64, w128}
use Rattle.dependence_tests.proofs.delta_test.Terms.{distance_value}
use Rattle.dependence_tests.proofs.delta_test.put.put.Goals as goal

pub returns-in-AtDistance-clause-value : goal.returns-in-AtDistance-clause-value
returns-in-AtDistance-clause-value c i j a =
    let fa : FitsSigned w64 c.args.first = c.ranges.first in
    let fb : FitsSigned w64 c.args.second = c.ranges.second in
    let fd : FitsSigned w128 c.in-AtDistance.distance = search rules in
    let f : c.at_distance.result.first ≡ c.args.first -ℤ c.args.second = simp to_z-of_z at c.at_distance.ensures.first in
    let k : c.at_distance.result.constant ≡ pos 0 -ℤ (c.args.second *ℤ c.in-AtDistance.distance) = simp to_z-of_z at c.at_distance.ensures.constant in
    let b : j ≡ i +ℤ c.in-AtDistance.distance = rw c.in-AtDistance.is at a in
    distance_value c.at_distance.result c.args.first c.args.second c.in-AtDistance.distance i j f c.at_distance.ensures.second k b
