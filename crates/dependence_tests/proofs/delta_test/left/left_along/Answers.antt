use Rattle.std.proofs.Common.{rules, ◌≡◌, ◌≤◌, ◌^◌, ◌∙◌, ap, arith, refl}
use Rattle.std.specs.Prelude.{ℤ, pos, ◌-ℤ◌, FitsSigned, unsigned_abs}
use Rattle.std.proofs.lemmas.Int.{ints, to_z-of_z, fits_signed_from_abs}
use mir.Syntax.{w64, w128}
use Rattle.dependence_tests.specs.loop_lines.Places.{loop_at}
use Rattle.subscripts.specs.Classes.{first_of, second_of}
use Rattle.dependence_tests.proofs.delta_test.Alone.{left_line}
use Rattle.dependence_tests.proofs.delta_test.left.left_along.Goals as goal

pub returns : goal.returns
returns c =
    let fr : FitsSigned w128 c.args.r.now.constant = search rules in
    let ga : FitsSigned w64 c.coefficients_of-first.result.0 = search rules in
    let gb : FitsSigned w64 c.coefficients_of-first.result.1 = search rules in
    let fa : FitsSigned w128 c.from.result = search rules in
    let fb : FitsSigned w128 c.from-2.result = search rules in
    let ea : c.from.result ≡ first_of c.args.r.now.pairing (loop_at c.args.at) = (simp to_z-of_z at c.from.ensures) ∙ c.coefficients_of-first.ensures.first in
    let eb : c.from-2.result ≡ second_of c.args.r.now.pairing (loop_at c.args.at) = (simp to_z-of_z at c.from-2.ensures) ∙ c.coefficients_of-first.ensures.second in
    let u : c.unsigned_abs.result ≡ unsigned_abs c.args.r.now.constant = simp to_z-of_z at c.unsigned_abs.ensures.value in
    let z : unsigned_abs c.args.r.now.constant ≤ 2 ^ 41 = omega arith in
    let ha : FitsSigned w128 (pos 0 -ℤ c.from-2.result) = fits_signed_from_abs w128 _ (omega (arith, ints)) in
    let hb : FitsSigned w128 (pos 0 -ℤ c.args.r.now.constant) = fits_signed_from_abs w128 _ (omega (arith, ints)) in
    simp to_z-of_z (
    left_line c.args.r.now (loop_at c.args.at) c.from.result (pos 0 -ℤ c.from-2.result) (pos 0 -ℤ c.args.r.now.constant) c.requires.sized c.requires.cancels c.requires.place c.requires.matters
    (c.is_alone.ensures (search rules)) z ea (ap (λ (t : ℤ). pos 0 -ℤ t) eb) refl
    )
