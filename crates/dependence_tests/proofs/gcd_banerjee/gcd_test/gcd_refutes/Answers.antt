use Rattle.std.proofs.Common.{rules, arith, ◌≡◌, ◌∙◌, subst, sym}
use Rattle.std.specs.Prelude.{FitsSigned, ℤ, pos, ◌-ℤ◌, unsigned_abs}
use Rattle.std.proofs.lemmas.Int.{fits_signed_from_abs, ints, to_z-of_z}
use Prim.Native.Nat.{◌∣◌}
use mir.Syntax.{w64, w128}
use Rattle.dependence_tests.proofs.gcd_banerjee.Gcds.{difference_is, same_difference}
use Rattle.dependence_tests.specs.gcd_banerjee.Divisors.{IsRefutedByGcdWith}
use Rattle.dependence_tests.specs.gcd_banerjee.Extremes.{difference_with}
use Rattle.subscripts.proofs.Sizes.{small_fits}
use Rattle.subscripts.specs.Refutations.{IsRefutedByGcd}
use Rattle.subscripts.specs.Shapes.{IsSmall}
use Rattle.subscripts.specs.declared.pairing.Pairing.{Pairing}
use Rattle.dependence_tests.proofs.gcd_banerjee.gcd_test.gcd_refutes.Goals as goal

refuted : (p : Pairing) → IsRefutedByGcdWith p (p.from.constant -ℤ p.to.constant) → IsRefutedByGcd p
refuted p r = (r.0, (r.1.0, λ d. r.1.1 (subst (λ n. r.0 ∣ n) (sym (same_difference p)) d)))

refuted_with : (p : Pairing) → IsRefutedByGcd p → IsRefutedByGcdWith p (p.from.constant -ℤ p.to.constant)
refuted_with p r = (r.0, (r.1.0, λ d. r.1.1 (subst (λ n. r.0 ∣ n) (same_difference p) d)))

pub returns-clause-exact : goal.returns-clause-exact
returns-clause-exact c =
    let a : IsSmall c.args.p.now.from.constant = c.requires.from.small_constant in
    let b : IsSmall c.args.p.now.to.constant = c.requires.to.small_constant in
    let f : FitsSigned w64 c.args.p.now.from.constant = small_fits _ c.requires.from.small_constant in
    let g : FitsSigned w64 c.args.p.now.to.constant = small_fits _ c.requires.to.small_constant in
    let i : FitsSigned w128 c.from.result = search rules in
    let j : FitsSigned w128 c.from-2.result = search rules in
    let x : c.from.result ≡ c.args.p.now.from.constant = omega (arith, ints) in
    let y : c.from-2.result ≡ c.args.p.now.to.constant = omega (arith, ints) in
    let k : FitsSigned w128 (c.from.result -ℤ c.from-2.result) = fits_signed_from_abs w128 _ (omega (arith, ints)) in
    let h = rw (x, y) at (simp to_z-of_z at c.gcd_refutes_with.ensures.exact) in
    (λ t. refuted c.args.p.now (h.0 t), λ r. h.1 (refuted_with c.args.p.now r))

pub returns-clause-sound : goal.returns-clause-sound
returns-clause-sound c =
    let a : IsSmall c.args.p.now.from.constant = c.requires.from.small_constant in
    let b : IsSmall c.args.p.now.to.constant = c.requires.to.small_constant in
    let f : FitsSigned w64 c.args.p.now.from.constant = small_fits _ c.requires.from.small_constant in
    let g : FitsSigned w64 c.args.p.now.to.constant = small_fits _ c.requires.to.small_constant in
    let i : FitsSigned w128 c.from.result = search rules in
    let j : FitsSigned w128 c.from-2.result = search rules in
    let x : c.from.result ≡ c.args.p.now.from.constant = omega (arith, ints) in
    let y : c.from-2.result ≡ c.args.p.now.to.constant = omega (arith, ints) in
    let k : FitsSigned w128 (c.from.result -ℤ c.from-2.result) = fits_signed_from_abs w128 _ (omega (arith, ints)) in
    let h = simp to_z-of_z at c.gcd_refutes_with.ensures.sound in
    λ t o d u w q.
    let e = q.equal o in
    h t e.0 u w (rw (x, y) (difference_is c.args.p.now e.0 u w ∙ e.1))
