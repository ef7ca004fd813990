use Rattle.std.proofs.Common.{rules, ◌≡◌, subst}
use Rattle.std.specs.Prelude.{ℤ, FitsSigned}
use Rattle.std.proofs.lemmas.Int.{to_z-of_z}
use mir.Syntax.{w64, w128}
use Rattle.subscripts.specs.declared.affine.Dir.{Dir}
use Rattle.dependence_tests.specs.loop_lines.line_points.Least.{WithinTrip, HasNone, IsLeast}
use Rattle.dependence_tests.specs.loop_lines.OneLoop.{dir_of, first_point, second_point}
use Rattle.dependence_tests.specs.loop_lines.Places.{loop_at}
use Rattle.dependence_tests.proofs.siv_tests.Answering.{none_left, least_left, iteration_fits, within_places}
use Rattle.dependence_tests.proofs.siv_tests.siv.least_pair.Goals as goal

pub returns-in_err-both : goal.returns-in_err-both
returns-in_err-both c =
    let ft : FitsSigned w64 c.args.trip = c.ranges.trip in
    let ff : FitsSigned w128 c.from.result = search rules in
    let et : c.from.result ≡ c.args.trip = simp to_z-of_z at c.from.ensures in
    let none : HasNone c.line_of.result c.from.result c.bounds_at.result.dir = simp to_z-of_z at c.in_err-both.ensures in
    rw c.from_residual.ensures
    (none_left c.args.p.now c.args.d.now (loop_at c.args.at) c.line_of.result c.args.trip c.requires.pairing c.requires.dirs c.bounds_at.ensures.places c.requires.one c.line_of.ensures.line c.requires.trip
    (subst (λ (z : ℤ). HasNone c.line_of.result z (dir_of c.args.d.now (loop_at c.args.at))) et (subst (λ (z : Dir). HasNone c.line_of.result c.from.result z) c.bounds_at.ensures.dir none)))

pub overflow_cast-both : goal.overflow_cast-both
overflow_cast-both c =
    let ft : FitsSigned w64 c.args.trip = c.ranges.trip in
    let ff : FitsSigned w128 c.from.result = search rules in
    let et : c.from.result ≡ c.args.trip = simp to_z-of_z at c.from.ensures in
    let fi : FitsSigned w128 c.in_ok-both.both.i = search rules in
    let least : IsLeast c.line_of.result c.from.result c.bounds_at.result.dir c.in_ok-both.both.i c.in_ok-both.both.j = simp to_z-of_z at c.in_ok-both.ensures in
    simp to_z-of_z (iteration_fits c.args.trip c.in_ok-both.both.i ft (subst (λ (z : ℤ). WithinTrip z c.in_ok-both.both.i) et least.within.first))

pub overflow_cast-both-2 : goal.overflow_cast-both-2
overflow_cast-both-2 c =
    let ft : FitsSigned w64 c.args.trip = c.ranges.trip in
    let ff : FitsSigned w128 c.from.result = search rules in
    let et : c.from.result ≡ c.args.trip = simp to_z-of_z at c.from.ensures in
    let fi : FitsSigned w128 c.in_ok-both.both.j = search rules in
    let least : IsLeast c.line_of.result c.from.result c.bounds_at.result.dir c.in_ok-both.both.i c.in_ok-both.both.j = simp to_z-of_z at c.in_ok-both.ensures in
    simp to_z-of_z (iteration_fits c.args.trip c.in_ok-both.both.j ft (subst (λ (z : ℤ). WithinTrip z c.in_ok-both.both.j) et least.within.second))

pub points_at-requires : goal.points_at-requires
points_at-requires c = within_places c.args.p.now (loop_at c.args.at) c.requires.pairing c.requires.one

pub returns : goal.returns
returns c =
    let ft : FitsSigned w64 c.args.trip = c.ranges.trip in
    let ff : FitsSigned w128 c.from.result = search rules in
    let et : c.from.result ≡ c.args.trip = simp to_z-of_z at c.from.ensures in
    let fi : FitsSigned w128 c.in_ok-both.both.i = search rules in
    let fj : FitsSigned w128 c.in_ok-both.both.j = search rules in
    let least : IsLeast c.line_of.result c.from.result c.bounds_at.result.dir c.in_ok-both.both.i c.in_ok-both.both.j = simp to_z-of_z at c.in_ok-both.ensures in
    let gi : FitsSigned w64 c.in_ok-both.both.i = iteration_fits c.args.trip c.in_ok-both.both.i ft (subst (λ (z : ℤ). WithinTrip z c.in_ok-both.both.i) et least.within.first) in
    let gj : FitsSigned w64 c.in_ok-both.both.j = iteration_fits c.args.trip c.in_ok-both.both.j ft (subst (λ (z : ℤ). WithinTrip z c.in_ok-both.both.j) et least.within.second) in
    let first : c.points_at.result.0.at ≡ first_point (loop_at c.args.at) c.in_ok-both.both.i = simp to_z-of_z at c.points_at.ensures.first in
    let second : c.points_at.result.1.at ≡ second_point (loop_at c.args.at) c.in_ok-both.both.j = simp to_z-of_z at c.points_at.ensures.second in
    rw (first, second)
    (least_left c.args.p.now c.args.d.now (loop_at c.args.at) c.line_of.result c.args.trip c.requires.pairing c.requires.dirs c.bounds_at.ensures.places c.requires.one c.line_of.ensures.line c.requires.trip
    c.in_ok-both.both.i c.in_ok-both.both.j
    (subst (λ (z : ℤ). IsLeast c.line_of.result z (dir_of c.args.d.now (loop_at c.args.at)) c.in_ok-both.both.i c.in_ok-both.both.j) et
    (subst (λ (z : Dir). IsLeast c.line_of.result c.from.result z c.in_ok-both.both.i c.in_ok-both.both.j) c.bounds_at.ensures.dir least)))
