use Rattle.std.proofs.Common.{rules, arith, ◌≡◌}
use Rattle.std.specs.Prelude.{FitsSigned, ℤ, ◌-ℤ◌, IsTrue, ◌↔◌}
use Rattle.std.proofs.lemmas.Int.{fits_signed_from_abs, ints, to_z-of_z}
use mir.Syntax.{w64, w128}
use Rattle.dependence_tests.proofs.gcd_banerjee.OneSided.{no_pair, one_sided, one_sided_with}
use Rattle.subscripts.proofs.Sizes.{small_fits}
use Rattle.subscripts.specs.Refutations.{IsOneSided}
use Rattle.subscripts.specs.Shapes.{IsSmall}
use Rattle.dependence_tests.proofs.gcd_banerjee.range_test.range_refutes.Goals as goal

exact : (c : goal.After-range_refutes_with) → IsTrue c.range_refutes_with.result ↔ IsOneSided c.args.p.now c.args.d.now
exact c =
    let a : IsSmall c.args.p.now.from.constant = c.requires.pairing.from.small_constant in
    let b : IsSmall c.args.p.now.to.constant = c.requires.pairing.to.small_constant in
    let f : FitsSigned w64 c.args.p.now.from.constant = small_fits _ c.requires.pairing.from.small_constant in
    let g : FitsSigned w64 c.args.p.now.to.constant = small_fits _ c.requires.pairing.to.small_constant in
    let i : FitsSigned w128 c.from.result = search rules in
    let j : FitsSigned w128 c.from-2.result = search rules in
    let x : c.from.result ≡ c.args.p.now.from.constant = omega (arith, ints) in
    let y : c.from-2.result ≡ c.args.p.now.to.constant = omega (arith, ints) in
    let k : FitsSigned w128 (c.from.result -ℤ c.from-2.result) = fits_signed_from_abs w128 _ (omega (arith, ints)) in
    let h = rw (x, y) at (simp to_z-of_z at c.range_refutes_with.ensures) in
    (λ t. one_sided c.args.p.now c.args.d.now (h.0 t), λ r. h.1 (one_sided_with c.args.p.now c.args.d.now r))

pub returns-clause-exact : goal.returns-clause-exact
returns-clause-exact c = exact c

pub returns-clause-sound : goal.returns-clause-sound
returns-clause-sound c = λ t k. no_pair c.args.p.now c.args.d.now k ((exact c).0 t)
