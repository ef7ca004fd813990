use Rattle.std.proofs.Common.{rules, arith, ◌≡◌, refl, true}
use Rattle.std.specs.Prelude.{FitsSigned, ℤ, pos, ◌<ℤ◌}
use Rattle.std.proofs.lemmas.Int.{ints, to_z-of_z}
use lib.Signed.{lt_z}
use mir.Syntax.{w128}
use Rattle.dependence_tests.proofs.gcd_banerjee.Differences.{above_least, above_nothing, least_above, not_above_unbounded}
use Rattle.dependence_tests.proofs.gcd_banerjee.extremes.is_above.Goals as goal

is_positive : (z : ℤ) → pos 0 <ℤ z → lt_z (pos 0) z ≡ true
is_positive z h = grind (arith, ints)

pub returns-in-Nothing : goal.returns-in-Nothing
returns-in-Nothing c =
    let f : FitsSigned w128 c.args.constant = c.ranges.constant in
    let h = rw c.in-Nothing.is at (simp to_z-of_z at c.least_difference.ensures) in
    (λ t. above_nothing c.args.p.now c.args.d.now c.args.constant c.args.opposite h, λ a. refl)

pub returns-in-Unbounded : goal.returns-in-Unbounded
returns-in-Unbounded c =
    let f : FitsSigned w128 c.args.constant = c.ranges.constant in
    let h = rw c.in-Unbounded.is at (simp to_z-of_z at c.least_difference.ensures) in
    (λ t. absurd (cc), λ a. absurd (not_above_unbounded c.args.p.now c.args.d.now c.args.constant c.args.opposite h a))

pub returns-in-At : goal.returns-in-At
returns-in-At c =
    let f : FitsSigned w128 c.args.constant = c.ranges.constant in
    let h = rw c.in-At.is at (simp to_z-of_z at c.least_difference.ensures) in
    let g : FitsSigned w128 c.in-At.least = search rules in
    simp to_z-of_z (
      λ t. above_least c.args.p.now c.args.d.now c.args.constant c.args.opposite c.in-At.least h (omega (arith, ints)),
      λ a. is_positive c.in-At.least (least_above c.args.p.now c.args.d.now c.args.constant c.args.opposite c.in-At.least h a),
    )
