use Rattle.std.proofs.Common.{◌≡◌, ◌∙◌, ◌+◌, ◌*◌, ◌≤◌, ◌<◌, ◌^◌, ap, sym, subst, rules, arith, ℤ, pos, negsuc, ◌+ℤ◌, ◌*ℤ◌, neg_ℤ, nat_abs, Bool, true, false, List, [], ◌∷◌, ◌++◌, map, drop, length, max, get_or, IfOk, SFits, to_z, of_z}
use Rattle.std.specs.Int.{w128}
use Rattle.std.proofs.lemmas.Int.{to_z-of_z}
use Rattle.find_nests.specs.bound_limits.Limits.{folded}
use Rattle.find_nests.specs.bound_limits.View.{wide_form_of}
use Rattle.find_nests.proofs.BoundLimits.SizeLaws.{smaller}
use Rattle.find_nests.proofs.BoundLimits.LimitLaws.{plus_constant-is}
use Rattle.find_nests.proofs.bound_limits.forms.WideForm.folded_end.Goals as goal

pub plus_multiple-requires : goal.plus_multiple-requires
plus_multiple-requires c =
    let step = to_z w128 (of_z w128 c.args.step) in
    let trip = to_z w128 (of_z w128 c.folded-trip.result) in
    let step_fits : SFits w128 c.args.step = search rules in
    let trip_fits : SFits w128 c.folded-trip.result = search rules in
    let step_size : nat_abs step ≤ 2 ^ 31 = subst (λ z. nat_abs z ≤ 2 ^ 31) (sym (to_z-of_z w128 c.args.step step_fits)) c.requires.step.1 in
    let trip_size : nat_abs trip ≤ 2 ^ 40 = subst (λ z. nat_abs z ≤ 2 ^ 40) (sym (to_z-of_z w128 c.folded-trip.result trip_fits)) c.folded-trip.ensures.size in
    let most : nat_abs step * nat_abs trip ≤ 2 ^ 31 * 2 ^ 40 = smaller (nat_abs step) (2 ^ 31) (nat_abs trip) (2 ^ 40) step_size trip_size in
    let plain : nat_abs c.args.self.now.constant ≤ 2 ^ 40 = c.requires.first.constant in
    let first_fits : SFits w128 c.args.self.now.constant = search rules in
    let first : nat_abs (to_z w128 (of_z w128 c.args.self.now.constant)) ≤ 2 ^ 40 = subst (λ z. nat_abs z ≤ 2 ^ 40) (sym (to_z-of_z w128 c.args.self.now.constant first_fits)) plain in
    omega (arith, most, first, plain)

pub returns : goal.returns
returns c =
    let f = wide_form_of c.args.self.now in
    let top = wide_form_of c.args.top.now in
    let trip : c.folded-trip.result ≡ folded c.args.step top = search rules in
    let whole : c.plus_multiple.result ≡ f.constant +ℤ c.args.step *ℤ c.folded-trip.result = search rules in
    let constant : c.plus_multiple.result ≡ f.constant +ℤ c.args.step *ℤ folded c.args.step top = whole ∙ ap (λ t. f.constant +ℤ c.args.step *ℤ t) trip in
    plus_constant-is f _ (c.args.step *ℤ folded c.args.step top) (c.in_ok-from_slice.ensures.items ∙ c.as_slice.ensures.value) (search rules)
