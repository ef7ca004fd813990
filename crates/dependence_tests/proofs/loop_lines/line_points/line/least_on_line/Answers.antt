use Rattle.std.proofs.Common.{rules, ◌≤◌, ◌^◌, arith}
use Rattle.std.specs.Prelude.{ℤ, pos, ◌≤ℤ◌, FitsSigned, unsigned_abs}
use Rattle.std.proofs.lemmas.Int.{ints, to_z-of_z}
use mir.Syntax.{w128}
use Rattle.dependence_tests.specs.loop_lines.line_points.Lines.{IsPointAt}
use Rattle.dependence_tests.proofs.loop_lines.LinePoints.Leasts.{has_none, is_least}
use Rattle.dependence_tests.proofs.loop_lines.line_points.line.least_on_line.Goals as goal

near_trip : (trip i : ℤ) → unsigned_abs trip ≤ 2 ^ 64 → pos 1 ≤ℤ i → i ≤ℤ trip → unsigned_abs i ≤ 2 ^ 64
near_trip trip i h l k = omega (arith, ints)

pub returns-then-stretch : goal.returns-then-stretch
returns-then-stretch c =
    let fa : FitsSigned w128 c.args.trip = c.ranges.trip in
    let fl : FitsSigned w128 c.meeting-stretch.result.low = search rules in
    let fh : FitsSigned w128 c.meeting-stretch.result.high = search rules in
    let e = simp to_z-of_z at c.meeting-stretch.ensures.every in
    has_none c.args.line c.in_ok-points.points c.meeting-stretch.result c.args.trip c.args.dir c.in_ok-points.ensures c.requires.trip e (omega (arith, ints))

pub point_at-requires-clause-at_i : goal.point_at-requires-clause-at_i
point_at-requires-clause-at_i c =
    let fa : FitsSigned w128 c.args.trip = c.ranges.trip in
    let fr : FitsSigned w128 c.first_end-at.result = search rules in
    let o = simp to_z-of_z at (c.meeting-stretch.ensures.only c.first_end-at.result c.first_end-at.ensures.inside) in
    simp to_z-of_z (near_trip c.args.trip _ c.requires.trip o.first.low o.first.high)

pub point_at-requires-clause-at_j : goal.point_at-requires-clause-at_j
point_at-requires-clause-at_j c =
    let fa : FitsSigned w128 c.args.trip = c.ranges.trip in
    let fr : FitsSigned w128 c.first_end-at.result = search rules in
    let o = simp to_z-of_z at (c.meeting-stretch.ensures.only c.first_end-at.result c.first_end-at.ensures.inside) in
    simp to_z-of_z (near_trip c.args.trip _ c.requires.trip o.second.low o.second.high)

pub returns : goal.returns
returns c =
    let fa : FitsSigned w128 c.args.trip = c.ranges.trip in
    let fr : FitsSigned w128 c.first_end-at.result = search rules in
    let e = simp to_z-of_z at c.meeting-stretch.ensures.every in
    let o = simp to_z-of_z at c.meeting-stretch.ensures.only in
    let w : IsPointAt c.in_ok-points.points c.first_end-at.result c.point_at.result.i c.point_at.result.j = simp to_z-of_z at c.point_at.ensures in
    is_least c.args.line c.in_ok-points.points c.meeting-stretch.result c.args.trip c.args.dir c.first_end-at.result c.point_at.result.i c.point_at.result.j
    c.in_ok-points.ensures c.requires.trip e o c.first_end-at.ensures.inside c.first_end-at.ensures.first w
