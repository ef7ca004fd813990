use Rattle.std.proofs.Common.{◌↔◌, IsTrue}
use Rattle.std.specs.Prelude.{FitsSigned}
use Rattle.std.proofs.lemmas.Int.{to_z-of_z}
use mir.Syntax.{w128}
use Rattle.dependence_tests.specs.loop_lines.line_points.Lines.{OnLine}
use Rattle.dependence_tests.proofs.delta_test.constraint.allows.Goals as goal

pub returns-in-AlongLine : goal.returns-in-AlongLine
returns-in-AlongLine c =
    let fi : FitsSigned w128 c.args.i = c.ranges.i in
    let fj : FitsSigned w128 c.args.j = c.ranges.j in
    let e : IsTrue c.is_on.result ↔ OnLine c.in-AlongLine.line c.args.i c.args.j = simp to_z-of_z at c.is_on.ensures in
    rw c.in-AlongLine.is e
