use Rattle.std.proofs.Common.{rules, ◌≡◌, ◌∙◌, ap, arith, get_or}
use Rattle.std.specs.Prelude.{ℤ, pos, ◌-ℤ◌, FitsSigned}
use Rattle.std.proofs.lemmas.Int.{ints, to_z-of_z, fits_signed_from_abs}
use mir.Syntax.{w64, w128}
use Rattle.subscripts.proofs.Sizes.{small_fits, place_fits}
use Rattle.dependence_tests.proofs.delta_test.Putting.{begun, put_one, all_put}
use Rattle.dependence_tests.proofs.delta_test.put.reduced_by.Goals as goal

pub loop-place-init : goal.loop-place-init
loop-place-init c =
    let f : FitsSigned w64 c.args.p.now.from.constant = small_fits _ c.requires.pairing.from.small_constant in
    let g : FitsSigned w64 c.args.p.now.to.constant = small_fits _ c.requires.pairing.to.small_constant in
    let i : FitsSigned w128 c.from.result = search rules in
    let j : FitsSigned w128 c.from-2.result = search rules in
    let x : c.from.result ≡ c.args.p.now.from.constant = simp to_z-of_z at c.from.ensures in
    let y : c.from-2.result ≡ c.args.p.now.to.constant = simp to_z-of_z at c.from-2.ensures in
    let k : FitsSigned w128 (c.from.result -ℤ c.from-2.result) = fits_signed_from_abs w128 _ (omega (arith, ints)) in
    simp to_z-of_z (begun c.args.constraints.now c.args.p.now (c.from.result -ℤ c.from-2.result) c.requires.pairing (ap (λ (z : ℤ). z -ℤ c.from-2.result) x ∙ ap (λ (z : ℤ). c.args.p.now.from.constant -ℤ z) y))

pub loop-place-preserved : goal.loop-place-preserved
loop-place-preserved c =
    let f : FitsSigned w64 (get_or c.args.p.now.from.loops c.loop-place.place (pos 0)) = place_fits c.args.p.now.from.loops c.loop-place.place c.requires.pairing.from.small_loops in
    let g : FitsSigned w64 (get_or c.args.p.now.to.loops c.loop-place.place (pos 0)) = place_fits c.args.p.now.to.loops c.loop-place.place c.requires.pairing.to.small_loops in
    let v = simp to_z-of_z at c.term_at-term.ensures.value in
    rw c.with-reduced.ensures
    (put_one c.args.constraints.now c.args.p.now c.loop-place.reduced c.loop-place.place c.term_at-term.result (omega arith) (omega arith) c.loop-place.invariant v
    c.term_at-term.ensures.first c.term_at-term.ensures.second c.term_at-term.ensures.size)

pub returns : goal.returns
returns c = all_put c.args.constraints.now c.args.p.now c.loop-place.reduced c.loop-place.place (omega arith) c.loop-place.invariant
