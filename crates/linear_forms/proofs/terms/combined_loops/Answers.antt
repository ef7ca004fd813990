use Rattle.std.proofs.Common.{◌≡◌, ◌<◌, ◌+ℤ◌, ◌*ℤ◌, ◌∙◌, ap, sym, pos, get_or, length, arith, rules, SFits, to_z, of_z}
use Rattle.std.specs.Int.{w64}
use Rattle.std.proofs.lemmas.Int.{to_z-of_z}
use Rattle.linear_forms.specs.Pushing.{small_or_none}
use Rattle.linear_forms.proofs.Sums.{one_more, small_is}
use Rattle.linear_forms.proofs.terms.combined_loops.Goals as goal

pub loop-at-preserved : goal.loop-at-preserved
loop-at-preserved c =
    let f = c.args.f.now in
    let g = c.args.g.now in
    let at = c.loop-at.at in
    let k = to_z w64 (of_z w64 c.args.k) in
    let fits_k : SFits w64 c.args.k = search rules in
    let plain : c.coefficient.result ≡ get_or f at (pos 0) +ℤ c.args.k *ℤ get_or g at (pos 0) = search rules in
    let exact : c.coefficient.result ≡ get_or f at (pos 0) +ℤ k *ℤ get_or g at (pos 0) = plain ∙ ap (λ k. get_or f at (pos 0) +ℤ k *ℤ get_or g at (pos 0)) (sym (to_z-of_z w64 c.args.k fits_k)) in
    let got : c.small.result ≡ small_or_none c.coefficient.result = search rules in
    let is = small_is c.coefficient.result c.in-Some.number (sym c.in-Some.is ∙ got) in
    let fits : SFits w64 c.in-Some.number = search rules in
    let inside : at < length c.loop-at.loops = omega (arith, c.loop-at.invariant.len, c.loop-at-test.true) in
    rw (to_z-of_z w64 c.in-Some.number fits)
    (record {
      done = one_more f g c.loop-at.loops k at c.in-Some.number inside c.loop-at.invariant.done (is.0 ∙ exact) is.1;
      len = search rules;
    })
