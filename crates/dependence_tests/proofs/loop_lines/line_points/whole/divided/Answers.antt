use Rattle.std.specs.Prelude.{FitsSigned, int_div, int_rem}
use Rattle.std.proofs.lemmas.Int.{to_z-of_z}
use mir.Syntax.{w128}
use Rattle.dependence_tests.proofs.loop_lines.LinePoints.Quotients.{quotient_fits, rest_fits, quotient_is}
use Rattle.dependence_tests.proofs.loop_lines.line_points.whole.divided.Goals as goal

pub returns : goal.returns
returns c =
    let fa : FitsSigned w128 c.args.a = c.ranges.a in
    let fb : FitsSigned w128 c.args.b = c.ranges.b in
    let fq : FitsSigned w128 (int_div c.args.a c.args.b) = quotient_fits c.args.a c.args.b c.requires.size in
    let fr : FitsSigned w128 (int_rem c.args.a c.args.b) = rest_fits c.args.a c.args.b c.requires.size in
    simp to_z-of_z (quotient_is c.args.a c.args.b c.requires.nonzero)
