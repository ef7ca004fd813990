use Rattle.std.proofs.Common.{◌≡◌, ◌∙◌, ◌+◌, ◌≤◌, ◌<◌, ◌^◌, ap, sym, subst, rules, arith, ℤ, pos, negsuc, ◌+ℤ◌, ◌*ℤ◌, neg_ℤ, nat_abs, Bool, true, false, List, [], ◌∷◌, ◌++◌, map, drop, length, max, get_or, SFits, to_z, of_z, IfOk}
use Rattle.std.specs.Int.{w128}
use Rattle.std.proofs.lemmas.Int.{to_z-of_z}
use Rattle.linear_forms.specs.Linear.{added}
use Rattle.find_nests.proofs.BoundLimits.Lists.{one_added, all_added}
use Rattle.find_nests.proofs.bound_limits.numbers.combined.Goals as goal

pub loop-place-preserved : goal.loop-place-preserved
loop-place-preserved c =
    let f = c.args.f.now in
    let g = c.args.g.now in
    let place = c.loop-place.place in
    let sum = c.loop-place.sum.items in
    let k = to_z w128 (of_z w128 c.args.times) in
    let fits : SFits w128 c.args.times = search rules in
    let plain : c.plus_multiple.result ≡ get_or f place (pos 0) +ℤ c.args.times *ℤ get_or g place (pos 0) = search rules in
    let exact : c.plus_multiple.result ≡ get_or f place (pos 0) +ℤ k *ℤ get_or g place (pos 0) = plain ∙ ap (λ k. get_or f place (pos 0) +ℤ k *ℤ get_or g place (pos 0)) (sym (to_z-of_z w128 c.args.times fits)) in
    let pushed : c.push.new.self.items ≡ sum ++ c.plus_multiple.result ∷ [] = search rules in
    let inside : place < max (length f) (length g) = search rules in
    subst (λ l. l ++ added (drop (place + 1) f) (map (λ a. k *ℤ a) (drop (place + 1) g)) ≡ added f (map (λ a. k *ℤ a) g)) (sym pushed)
    (one_added k f g sum c.plus_multiple.result place inside c.loop-place.invariant exact)

pub returns : goal.returns
returns c =
    let f = c.args.f.now in
    let g = c.args.g.now in
    let sum = c.loop-place.sum.items in
    let k = to_z w128 (of_z w128 c.args.times) in
    let fits : SFits w128 c.args.times = search rules in
    let past : max (length f) (length g) ≤ c.loop-place.place = search rules in
    subst (λ k. sum ≡ added f (map (λ a. k *ℤ a) g)) (to_z-of_z w128 c.args.times fits) (all_added k f g sum c.loop-place.place past c.loop-place.invariant)
