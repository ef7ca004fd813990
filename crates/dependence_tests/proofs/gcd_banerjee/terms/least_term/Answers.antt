use Rattle.std.proofs.Common.{arith, ◌≡◌}
use Rattle.std.specs.Prelude.{pos, ◌-ℤ◌, FitsSigned}
use Rattle.std.proofs.lemmas.Int.{fits_signed_from_abs, ints, to_z-of_z}
use mir.Syntax.{w128}
use Rattle.dependence_tests.proofs.gcd_banerjee.TermValues.{least_any, least_eq, least_gt, least_lt}
use Rattle.dependence_tests.proofs.gcd_banerjee.terms.least_term.Goals as goal

pub returns-in-Lt-clause-least : goal.returns-in-Lt-clause-least
returns-in-Lt-clause-least c =
    let a : FitsSigned w128 c.args.first = c.ranges.first in
    let b : FitsSigned w128 c.args.second = c.ranges.second in
    let e : c.args.from ≡ c.args.to = c.requires.spans (λ h. let i = c.in-Lt.is in cc) in
    rw c.in-Lt.is (least_lt c.args.first c.args.second c.args.from c.args.to c.least_before.result e (simp to_z-of_z at c.least_before.ensures.least))

pub returns-in-Eq-clause-least : goal.returns-in-Eq-clause-least
returns-in-Eq-clause-least c =
    let a : FitsSigned w128 c.args.first = c.ranges.first in
    let b : FitsSigned w128 c.args.second = c.ranges.second in
    let d : FitsSigned w128 (c.args.first -ℤ c.args.second) = fits_signed_from_abs w128 _ (omega (arith, ints)) in
    let e : c.args.from ≡ c.args.to = c.requires.spans (λ h. let i = c.in-Eq.is in cc) in
    rw c.in-Eq.is (least_eq c.args.first c.args.second c.args.from c.args.to c.least_along.result e (simp to_z-of_z at c.least_along.ensures.least))

pub returns-in-Gt-clause-least : goal.returns-in-Gt-clause-least
returns-in-Gt-clause-least c =
    let a : FitsSigned w128 c.args.first = c.ranges.first in
    let b : FitsSigned w128 c.args.second = c.ranges.second in
    let d : FitsSigned w128 (pos 0 -ℤ c.args.first) = fits_signed_from_abs w128 _ (omega (arith, ints)) in
    let o : FitsSigned w128 (pos 0 -ℤ c.args.second) = fits_signed_from_abs w128 _ (omega (arith, ints)) in
    let e : c.args.from ≡ c.args.to = c.requires.spans (λ h. let i = c.in-Gt.is in cc) in
    rw c.in-Gt.is (least_gt c.args.first c.args.second c.args.from c.args.to c.least_before-in-Gt.result e (simp to_z-of_z at c.least_before-in-Gt.ensures.least))

pub returns-in-Any-clause-least : goal.returns-in-Any-clause-least
returns-in-Any-clause-least c =
    let a : FitsSigned w128 c.args.first = c.ranges.first in
    let b : FitsSigned w128 c.args.second = c.ranges.second in
    let o : FitsSigned w128 (pos 0 -ℤ c.args.second) = fits_signed_from_abs w128 _ (omega (arith, ints)) in
    rw (c.in-Any.is, c.plus.ensures)
    (least_any c.args.first c.args.second c.args.from c.args.to c.least_along-in-Any.result c.least_along-in-Any-2.result (simp to_z-of_z at c.least_along-in-Any.ensures.least)
    (simp to_z-of_z at c.least_along-in-Any-2.ensures.least))
