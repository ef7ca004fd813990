use Rattle.std.proofs.Common.{rules, ◌≡◌, arith}
use Rattle.std.specs.Prelude.{pos, ◌<ℤ◌, FitsSigned}
use Rattle.std.proofs.lemmas.Int.{ints, to_z-of_z}
use mir.Syntax.{w128}
use Rattle.dependence_tests.proofs.loop_lines.LinePoints.Leasts.{ahead_i, ahead_j, behind_i, behind_j}
use Rattle.dependence_tests.proofs.loop_lines.line_points.line.first_end.Goals as goal

pub returns-then-points-gt0-clause-first : goal.returns-then-points-gt0-clause-first
returns-then-points-gt0-clause-first c s n =
    let fi : FitsSigned w128 c.args.points.i = search rules in
    let fj : FitsSigned w128 c.args.points.j = search rules in
    let fa : FitsSigned w128 c.args.points.along_i = search rules in
    let fb : FitsSigned w128 c.args.points.along_j = search rules in
    let fl : FitsSigned w128 c.args.stretch.low = search rules in
    let fh : FitsSigned w128 c.args.stretch.high = search rules in
    let h : pos 0 <ℤ c.args.points.along_i = omega (arith, ints) in
    simp to_z-of_z (ahead_i c.args.points.i c.args.points.j c.args.points.along_i c.args.points.along_j c.args.stretch.low s h n.low)

pub returns-then-points-lt0-clause-first : goal.returns-then-points-lt0-clause-first
returns-then-points-lt0-clause-first c s n =
    let fi : FitsSigned w128 c.args.points.i = search rules in
    let fj : FitsSigned w128 c.args.points.j = search rules in
    let fa : FitsSigned w128 c.args.points.along_i = search rules in
    let fb : FitsSigned w128 c.args.points.along_j = search rules in
    let fl : FitsSigned w128 c.args.stretch.low = search rules in
    let fh : FitsSigned w128 c.args.stretch.high = search rules in
    let h : c.args.points.along_i <ℤ pos 0 = omega (arith, ints) in
    simp to_z-of_z (behind_i c.args.points.i c.args.points.j c.args.points.along_i c.args.points.along_j c.args.stretch.high s h n.high)

pub returns-then-points-gt0-2-clause-first : goal.returns-then-points-gt0-2-clause-first
returns-then-points-gt0-2-clause-first c s n =
    let fi : FitsSigned w128 c.args.points.i = search rules in
    let fj : FitsSigned w128 c.args.points.j = search rules in
    let fa : FitsSigned w128 c.args.points.along_i = search rules in
    let fb : FitsSigned w128 c.args.points.along_j = search rules in
    let fl : FitsSigned w128 c.args.stretch.low = search rules in
    let fh : FitsSigned w128 c.args.stretch.high = search rules in
    let z : c.args.points.along_i ≡ pos 0 = omega (arith, ints) in
    let h : pos 0 <ℤ c.args.points.along_j = omega (arith, ints) in
    simp to_z-of_z (ahead_j c.args.points.i c.args.points.j c.args.points.along_i c.args.points.along_j c.args.stretch.low s z h n.low)

pub returns-else-points-gt0-2-clause-first : goal.returns-else-points-gt0-2-clause-first
returns-else-points-gt0-2-clause-first c s n =
    let fi : FitsSigned w128 c.args.points.i = search rules in
    let fj : FitsSigned w128 c.args.points.j = search rules in
    let fa : FitsSigned w128 c.args.points.along_i = search rules in
    let fb : FitsSigned w128 c.args.points.along_j = search rules in
    let fl : FitsSigned w128 c.args.stretch.low = search rules in
    let fh : FitsSigned w128 c.args.stretch.high = search rules in
    let z : c.args.points.along_i ≡ pos 0 = omega (arith, ints) in
    let w : c.args.points.along_j ≡ pos 0 → ⊥ = λ e. c.requires.apart z e in
    let h : c.args.points.along_j <ℤ pos 0 = omega (arith, ints) in
    simp to_z-of_z (behind_j c.args.points.i c.args.points.j c.args.points.along_i c.args.points.along_j c.args.stretch.high s z h n.high)
