use Rattle.std.proofs.Common.{◌≤◌, ◌^◌, arith}
use Rattle.std.specs.Prelude.{FitsSigned, unsigned_abs}
use Rattle.std.proofs.lemmas.Int.{fits_signed_from_abs, to_z-of_z}
use mir.Syntax.{w128}
use Rattle.dependence_tests.proofs.gcd_banerjee.least.least_over.Goals as goal

pub returns-in-Some-clause-least : goal.returns-in-Some-clause-least
returns-in-Some-clause-least c =
    let b : FitsSigned w128 c.args.base = c.ranges.base in
    let f : FitsSigned w128 c.args.c = c.ranges.c in
    let s : FitsSigned w128 c.args.d = c.ranges.d in
    let n : unsigned_abs c.in-Some.room ≤ 2 ^ 64 = rw c.in-Some.is at c.requires.room in
    let r : FitsSigned w128 c.in-Some.room = fits_signed_from_abs w128 _ (omega arith) in
    rw c.in-Some.is (simp to_z-of_z at c.least_over_triangle.ensures.least)

pub returns-in-None-clause-least : goal.returns-in-None-clause-least
returns-in-None-clause-least c =
    let b : FitsSigned w128 c.args.base = c.ranges.base in
    let f : FitsSigned w128 c.args.c = c.ranges.c in
    let s : FitsSigned w128 c.args.d = c.ranges.d in
    rw c.in-None.is (simp to_z-of_z at c.least_over_quadrant.ensures.least)
