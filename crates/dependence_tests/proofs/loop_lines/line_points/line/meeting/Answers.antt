use Rattle.std.proofs.Common.{rules, arith}
use Rattle.std.specs.Prelude.{FitsSigned}
use Rattle.std.proofs.lemmas.Int.{ints, to_z-of_z}
use mir.Syntax.{w128}
use Rattle.dependence_tests.proofs.loop_lines.line_points.line.meeting.Goals as goal

pub returns-clause-every : goal.returns-clause-every
returns-clause-every c s h w =
    let fi : FitsSigned w128 c.args.points.i = search rules in
    let fj : FitsSigned w128 c.args.points.j = search rules in
    let fa : FitsSigned w128 c.args.points.along_i = search rules in
    let fb : FitsSigned w128 c.args.points.along_j = search rules in
    let ft : FitsSigned w128 c.args.trip = c.ranges.trip in
    let a = simp to_z-of_z at (c.within_trip-first.ensures.left s) in
    let b = simp to_z-of_z at (c.within_trip-second.ensures.left s) in
    (c.related.ensures.left s).1 (b.1 (a.1 (record { low = omega (arith, ints); high = omega (arith, ints) }, w.first), w.second), w.related)

pub returns-clause-only : goal.returns-clause-only
returns-clause-only c s h =
    let fi : FitsSigned w128 c.args.points.i = search rules in
    let fj : FitsSigned w128 c.args.points.j = search rules in
    let fa : FitsSigned w128 c.args.points.along_i = search rules in
    let fb : FitsSigned w128 c.args.points.along_j = search rules in
    let ft : FitsSigned w128 c.args.trip = c.ranges.trip in
    let a = simp to_z-of_z at (c.within_trip-first.ensures.left s) in
    let b = simp to_z-of_z at (c.within_trip-second.ensures.left s) in
    let x = (c.related.ensures.left s).0 h in
    let y = b.0 x.0 in
    let z = a.0 y.0 in
    record { first = z.1; second = y.1; related = x.1 }
