use Rattle.std.proofs.Common.{rules, ◌≡◌, ◌≤◌, ◌^◌, arith, ap, subst, ◌∙◌}
use Rattle.std.specs.Prelude.{ℤ, pos, ◌-ℤ◌, FitsSigned, unsigned_abs}
use Rattle.std.proofs.lemmas.Int.{ints, to_z-of_z, fits_signed_from_abs}
use mir.Syntax.{w64, w128}
use Rattle.dependence_tests.specs.loop_lines.Places.{loop_at}
use Rattle.dependence_tests.proofs.loop_lines.Loops.{small_line}
use Rattle.dependence_tests.proofs.loop_lines.one_loop.line_of.Goals as goal

pub returns-clause-small : goal.returns-clause-small
returns-clause-small c =
    let ra : FitsSigned w64 c.coefficients_at-first.result.0 = search rules in
    let rb : FitsSigned w64 c.coefficients_at-first.result.1 = search rules in
    let rc : FitsSigned w64 c.args.p.now.to.constant = search rules in
    let rd : FitsSigned w64 c.args.p.now.from.constant = search rules in
    let fa : FitsSigned w128 c.from.result = search rules in
    let fb : FitsSigned w128 c.from-2.result = search rules in
    let fc : FitsSigned w128 c.from-3.result = search rules in
    let fd : FitsSigned w128 c.from-4.result = search rules in
    let ea : c.from.result ≡ c.coefficients_at-first.result.0 = simp to_z-of_z at c.from.ensures in
    let eb : c.from-2.result ≡ c.coefficients_at-first.result.1 = simp to_z-of_z at c.from-2.ensures in
    let ec : c.from-3.result ≡ c.args.p.now.to.constant = simp to_z-of_z at c.from-3.ensures in
    let ed : c.from-4.result ≡ c.args.p.now.from.constant = simp to_z-of_z at c.from-4.ensures in
    let one = c.requires.one in
    let ga : FitsSigned w128 (pos 0 -ℤ c.from-2.result) = fits_signed_from_abs w128 _ (omega (arith, ints)) in
    let gb : FitsSigned w128 (c.from-3.result -ℤ c.from-4.result) = fits_signed_from_abs w128 _ (omega (arith, ints)) in
    simp to_z-of_z (small_line c.args.p.now (loop_at c.args.at) _ _ _ one (subst (λ (z : ℤ). unsigned_abs z ≤ 2 ^ 40) c.coefficients_at-first.ensures.first c.coefficients_at-first.ensures.first_size)
    (subst (λ (z : ℤ). unsigned_abs z ≤ 2 ^ 40) c.coefficients_at-first.ensures.second c.coefficients_at-first.ensures.second_size) c.requires.pairing (ea ∙ c.coefficients_at-first.ensures.first)
    (ap (λ (z : ℤ). pos 0 -ℤ z) (eb ∙ c.coefficients_at-first.ensures.second)) (ap (λ (z : ℤ). z -ℤ c.from-4.result) ec ∙ ap (λ (z : ℤ). c.args.p.now.to.constant -ℤ z) ed))
