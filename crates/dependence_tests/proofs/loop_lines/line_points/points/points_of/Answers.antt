use Rattle.std.proofs.Common.{rules, ◌≡◌, arith}
use Rattle.std.specs.Prelude.{pos, ◌*ℤ◌, FitsSigned}
use Rattle.std.proofs.lemmas.Int.{ints, to_z-of_z}
use Rattle.std.proofs.Math.IntN.{neg_ℤ}
use mir.Syntax.{w128}
use Rattle.dependence_tests.specs.loop_lines.line_points.Bezout.{IsBezout}
use Rattle.dependence_tests.specs.loop_lines.line_points.Quotient.{IsQuotient}
use Rattle.dependence_tests.proofs.loop_lines.LinePoints.Floors.{zero_less}
use Rattle.dependence_tests.proofs.loop_lines.LinePoints.PointsOfLine.{Sizes, sizes_are, no_point, are_points, product_below, neg_fits}
use Rattle.dependence_tests.proofs.loop_lines.line_points.points.points_of.Goals as goal

pub returns-then-scale-ne0 : goal.returns-then-scale-ne0
returns-then-scale-ne0 c =
    let fa : FitsSigned w128 c.args.line.first = search rules in
    let fb : FitsSigned w128 c.args.line.second = search rules in
    let fc : FitsSigned w128 c.args.line.constant = search rules in
    let fg : FitsSigned w128 c.euclid-bezout.result.divisor = search rules in
    let fp : FitsSigned w128 c.euclid-bezout.result.first = search rules in
    let fq : FitsSigned w128 c.euclid-bezout.result.second = search rules in
    let fx : FitsSigned w128 c.euclid-bezout.result.x = search rules in
    let fy : FitsSigned w128 c.euclid-bezout.result.y = search rules in
    let ft : FitsSigned w128 c.divided-scale.result.rest = search rules in
    let n : c.divided-scale.result.rest ≡ pos 0 → ⊥ = omega (arith, ints) in
    let b : IsBezout c.args.line.first c.args.line.second c.euclid-bezout.result = simp to_z-of_z at c.euclid-bezout.ensures in
    let q : IsQuotient c.args.line.constant c.euclid-bezout.result.divisor c.divided-scale.result = simp to_z-of_z at c.divided-scale.ensures in
    let s : Sizes c.args.line c.euclid-bezout.result c.divided-scale.result = sizes_are c.args.line c.euclid-bezout.result c.divided-scale.result c.requires b q in
    no_point c.args.line c.euclid-bezout.result c.divided-scale.result b q n

pub times-requires : goal.times-requires
times-requires c =
    let fa : FitsSigned w128 c.args.line.first = search rules in
    let fb : FitsSigned w128 c.args.line.second = search rules in
    let fc : FitsSigned w128 c.args.line.constant = search rules in
    let fg : FitsSigned w128 c.euclid-bezout.result.divisor = search rules in
    let fp : FitsSigned w128 c.euclid-bezout.result.first = search rules in
    let fq : FitsSigned w128 c.euclid-bezout.result.second = search rules in
    let fx : FitsSigned w128 c.euclid-bezout.result.x = search rules in
    let fy : FitsSigned w128 c.euclid-bezout.result.y = search rules in
    let ft : FitsSigned w128 c.divided-scale.result.times = search rules in
    let b : IsBezout c.args.line.first c.args.line.second c.euclid-bezout.result = simp to_z-of_z at c.euclid-bezout.ensures in
    let q : IsQuotient c.args.line.constant c.euclid-bezout.result.divisor c.divided-scale.result = simp to_z-of_z at c.divided-scale.ensures in
    let s : Sizes c.args.line c.euclid-bezout.result c.divided-scale.result = sizes_are c.args.line c.euclid-bezout.result c.divided-scale.result c.requires b q in
    simp to_z-of_z (omega (arith, product_below c.divided-scale.result.times c.euclid-bezout.result.x s.times s.x))

pub times-requires-2 : goal.times-requires-2
times-requires-2 c =
    let fa : FitsSigned w128 c.args.line.first = search rules in
    let fb : FitsSigned w128 c.args.line.second = search rules in
    let fc : FitsSigned w128 c.args.line.constant = search rules in
    let fg : FitsSigned w128 c.euclid-bezout.result.divisor = search rules in
    let fp : FitsSigned w128 c.euclid-bezout.result.first = search rules in
    let fq : FitsSigned w128 c.euclid-bezout.result.second = search rules in
    let fx : FitsSigned w128 c.euclid-bezout.result.x = search rules in
    let fy : FitsSigned w128 c.euclid-bezout.result.y = search rules in
    let ft : FitsSigned w128 c.divided-scale.result.times = search rules in
    let b : IsBezout c.args.line.first c.args.line.second c.euclid-bezout.result = simp to_z-of_z at c.euclid-bezout.ensures in
    let q : IsQuotient c.args.line.constant c.euclid-bezout.result.divisor c.divided-scale.result = simp to_z-of_z at c.divided-scale.ensures in
    let s : Sizes c.args.line c.euclid-bezout.result c.divided-scale.result = sizes_are c.args.line c.euclid-bezout.result c.divided-scale.result c.requires b q in
    simp to_z-of_z (omega (arith, product_below c.divided-scale.result.times c.euclid-bezout.result.y s.times s.y))

pub overflow_sub-result : goal.overflow_sub-result
overflow_sub-result c =
    let fa : FitsSigned w128 c.args.line.first = search rules in
    let fb : FitsSigned w128 c.args.line.second = search rules in
    let fc : FitsSigned w128 c.args.line.constant = search rules in
    let fg : FitsSigned w128 c.euclid-bezout.result.divisor = search rules in
    let fp : FitsSigned w128 c.euclid-bezout.result.first = search rules in
    let fq : FitsSigned w128 c.euclid-bezout.result.second = search rules in
    let fx : FitsSigned w128 c.euclid-bezout.result.x = search rules in
    let fy : FitsSigned w128 c.euclid-bezout.result.y = search rules in
    let ft : FitsSigned w128 c.divided-scale.result.times = search rules in
    let b : IsBezout c.args.line.first c.args.line.second c.euclid-bezout.result = simp to_z-of_z at c.euclid-bezout.ensures in
    let q : IsQuotient c.args.line.constant c.euclid-bezout.result.divisor c.divided-scale.result = simp to_z-of_z at c.divided-scale.ensures in
    let s : Sizes c.args.line c.euclid-bezout.result c.divided-scale.result = sizes_are c.args.line c.euclid-bezout.result c.divided-scale.result c.requires b q in
    let np : FitsSigned w128 (neg_ℤ c.euclid-bezout.result.first) = neg_fits c.euclid-bezout.result.first s.first in
    simp to_z-of_z (simp zero_less np)

pub returns : goal.returns
returns c =
    let fa : FitsSigned w128 c.args.line.first = search rules in
    let fb : FitsSigned w128 c.args.line.second = search rules in
    let fc : FitsSigned w128 c.args.line.constant = search rules in
    let fg : FitsSigned w128 c.euclid-bezout.result.divisor = search rules in
    let fp : FitsSigned w128 c.euclid-bezout.result.first = search rules in
    let fq : FitsSigned w128 c.euclid-bezout.result.second = search rules in
    let fx : FitsSigned w128 c.euclid-bezout.result.x = search rules in
    let fy : FitsSigned w128 c.euclid-bezout.result.y = search rules in
    let ft : FitsSigned w128 c.divided-scale.result.times = search rules in
    let b : IsBezout c.args.line.first c.args.line.second c.euclid-bezout.result = simp to_z-of_z at c.euclid-bezout.ensures in
    let q : IsQuotient c.args.line.constant c.euclid-bezout.result.divisor c.divided-scale.result = simp to_z-of_z at c.divided-scale.ensures in
    let s : Sizes c.args.line c.euclid-bezout.result c.divided-scale.result = sizes_are c.args.line c.euclid-bezout.result c.divided-scale.result c.requires b q in
    let fi : FitsSigned w128 c.times.result = search rules in
    let fj : FitsSigned w128 c.times-2.result = search rules in
    let ei : c.times.result ≡ c.divided-scale.result.times *ℤ c.euclid-bezout.result.x = simp to_z-of_z at c.times.ensures in
    let ej : c.times-2.result ≡ c.divided-scale.result.times *ℤ c.euclid-bezout.result.y = simp to_z-of_z at c.times-2.ensures in
    let fr : FitsSigned w128 c.divided-scale.result.rest = search rules in
    let z : c.divided-scale.result.rest ≡ pos 0 = omega (arith, ints) in
    let np : FitsSigned w128 (neg_ℤ c.euclid-bezout.result.first) = neg_fits c.euclid-bezout.result.first s.first in
    simp (zero_less, to_z-of_z) (are_points c.args.line c.euclid-bezout.result c.divided-scale.result c.times.result c.times-2.result c.requires b q z ei ej)
