use Rattle.std.proofs.Common.{arith}
use Rattle.std.specs.Prelude.{pos, ◌-ℤ◌, FitsSigned}
use Rattle.std.proofs.lemmas.Int.{fits_signed_from_abs, ints, to_z-of_z}
use mir.Syntax.{w128}
use Rattle.dependence_tests.proofs.gcd_banerjee.TermValues.{least_of_before}
use Rattle.dependence_tests.proofs.gcd_banerjee.terms.least_before.Goals as goal

pub returns-clause-least : goal.returns-clause-least
returns-clause-least c =
    let a : FitsSigned w128 c.args.first = c.ranges.first in
    let b : FitsSigned w128 c.args.second = c.ranges.second in
    let d : FitsSigned w128 (c.args.first -ℤ c.args.second) = fits_signed_from_abs w128 _ (omega (arith, ints)) in
    let e : FitsSigned w128 ((c.args.first -ℤ c.args.second) -ℤ c.args.second) = fits_signed_from_abs w128 _ (omega (arith, ints)) in
    let o : FitsSigned w128 (pos 0 -ℤ c.args.second) = fits_signed_from_abs w128 _ (omega (arith, ints)) in
    least_of_before c.args.first c.args.second c.args.last c.steps_from.result c.least_over.result c.steps_from.ensures.steps (simp to_z-of_z at c.least_over.ensures.least)
