use Rattle.std.proofs.Common.{rules, ◌≡◌, subst}
use Rattle.std.specs.Prelude.{ℤ, All, FitsSigned}
use Rattle.std.proofs.lemmas.Int.{to_z-of_z}
use mir.Syntax.{w64, w128}
use Rattle.subscripts.specs.declared.affine.Dir.{Dir}
use Rattle.dependence_tests.specs.loop_lines.line_points.Least.{WithinTrip}
use Rattle.dependence_tests.specs.loop_lines.OneLoop.{dir_of, first_point, second_point}
use Rattle.dependence_tests.specs.loop_lines.Places.{loop_at}
use Rattle.dependence_tests.specs.delta_test.IterationsLeft.{IsNoneLeft, IsLeastLeft}
use Rattle.dependence_tests.proofs.delta_test.OneLoops.{IsMemberOn, members_on, none_of_all, least_of_all, iteration_fits}
use Rattle.dependence_tests.proofs.delta_test.one_loop.least_pair_of_all.Goals as goal

pub returns-in_err-both : goal.returns-in_err-both
returns-in_err-both c =
    let ft : FitsSigned w64 c.args.trip = c.ranges.trip in
    let ff : FitsSigned w128 c.from.result = search rules in
    let et : c.from.result ≡ c.args.trip = simp to_z-of_z at c.from.ensures in
    let none : IsNoneLeft c.shared_by_all-shared.result c.from.result c.bounds_at.result.dir = simp to_z-of_z at c.in_err-both.ensures in
    let m : All (IsMemberOn c.args.d.now (loop_at c.args.at) c.args.trip) c.args.ps.now =
    members_on c.args.ps.now c.args.d.now (loop_at c.args.at) c.args.trip c.requires.members c.requires.one c.shared_by_all-shared.ensures.places c.bounds_at.ensures.places.dirs c.requires.trip in
    rw c.from_residual.ensures
    (none_of_all c.args.ps.now c.args.d.now (loop_at c.args.at) c.args.trip c.shared_by_all-shared.result c.requires.members.some m c.shared_by_all-shared.ensures.same
    (subst (λ (z : ℤ). IsNoneLeft c.shared_by_all-shared.result z (dir_of c.args.d.now (loop_at c.args.at))) et (subst (λ (z : Dir). IsNoneLeft c.shared_by_all-shared.result c.from.result z) c.bounds_at.ensures.dir none)))

pub returns : goal.returns
returns c =
    let ft : FitsSigned w64 c.args.trip = c.ranges.trip in
    let ff : FitsSigned w128 c.from.result = search rules in
    let et : c.from.result ≡ c.args.trip = simp to_z-of_z at c.from.ensures in
    let fi : FitsSigned w128 c.in_ok-both.both.i = search rules in
    let fj : FitsSigned w128 c.in_ok-both.both.j = search rules in
    let least : IsLeastLeft c.shared_by_all-shared.result c.from.result c.bounds_at.result.dir c.in_ok-both.both.i c.in_ok-both.both.j = simp to_z-of_z at c.in_ok-both.ensures in
    let gi : FitsSigned w64 c.in_ok-both.both.i = iteration_fits c.args.trip c.in_ok-both.both.i ft (subst (λ (z : ℤ). WithinTrip z c.in_ok-both.both.i) et least.within.first) in
    let gj : FitsSigned w64 c.in_ok-both.both.j = iteration_fits c.args.trip c.in_ok-both.both.j ft (subst (λ (z : ℤ). WithinTrip z c.in_ok-both.both.j) et least.within.second) in
    let first : c.points_at.result.0.at ≡ first_point (loop_at c.args.at) c.in_ok-both.both.i = simp to_z-of_z at c.points_at.ensures.first in
    let second : c.points_at.result.1.at ≡ second_point (loop_at c.args.at) c.in_ok-both.both.j = simp to_z-of_z at c.points_at.ensures.second in
    let m : All (IsMemberOn c.args.d.now (loop_at c.args.at) c.args.trip) c.args.ps.now =
    members_on c.args.ps.now c.args.d.now (loop_at c.args.at) c.args.trip c.requires.members c.requires.one c.shared_by_all-shared.ensures.places c.bounds_at.ensures.places.dirs c.requires.trip in
    rw (first, second)
    (least_of_all c.args.ps.now c.args.d.now (loop_at c.args.at) c.args.trip c.shared_by_all-shared.result c.in_ok-both.both.i c.in_ok-both.both.j c.requires.members.some m c.shared_by_all-shared.ensures.same
    (subst (λ (z : ℤ). IsLeastLeft c.shared_by_all-shared.result z (dir_of c.args.d.now (loop_at c.args.at)) c.in_ok-both.both.i c.in_ok-both.both.j) et
    (subst (λ (z : Dir). IsLeastLeft c.shared_by_all-shared.result c.from.result z c.in_ok-both.both.i c.in_ok-both.both.j) c.bounds_at.ensures.dir least)))
