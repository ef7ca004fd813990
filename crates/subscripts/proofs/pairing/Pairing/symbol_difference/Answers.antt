use Rattle.std.proofs.Common.{rules, ◌≡◌, ◌≤◌, ◌^◌, arith, ap}
use Rattle.std.specs.Prelude.{FitsSigned, ◌-ℤ◌}
use Rattle.std.proofs.lemmas.Int.{ints, to_z-of_z, fits_signed_from_abs}
use mir.Syntax.{w64}
use Rattle.subscripts.proofs.pairing.Pairing.symbol_difference.Goals as goal

pub overflow_sub-result : goal.overflow_sub-result
overflow_sub-result c =
    let f : FitsSigned w64 c.coefficient.result = search rules in
    let g : FitsSigned w64 c.coefficient-2.result = search rules in
    simp to_z-of_z (fits_signed_from_abs w64 _ (omega (arith, ints)))

pub returns : goal.returns
returns c =
    let f : FitsSigned w64 c.coefficient.result = search rules in
    let g : FitsSigned w64 c.coefficient-2.result = search rules in
    let h : FitsSigned w64 (c.coefficient.result -ℤ c.coefficient-2.result) = fits_signed_from_abs w64 _ (omega (arith, ints)) in
    record { value = simp to_z-of_z (omega (arith, ints)); small = simp to_z-of_z (omega (arith, ints)) }
