use Rattle.std.proofs.Common.{◌≡◌, ◌∙◌, ◌+◌, ◌*◌, ◌≤◌, ◌<◌, ◌^◌, ap, sym, subst, rules, arith, ℤ, pos, negsuc, ◌+ℤ◌, ◌*ℤ◌, neg_ℤ, nat_abs, Bool, true, false, List, [], ◌∷◌, ◌++◌, map, drop, length, max, get_or, IfOk, SFits, to_z, of_z}
use Rattle.std.specs.Int.{w128}
use Rattle.std.proofs.lemmas.Int.{to_z-of_z}
use Rattle.linear_forms.specs.Linear.{Form}
use Rattle.find_nests.specs.bound_limits.Limits.{difference}
use Rattle.find_nests.specs.bound_limits.View.{wide_form_of}
use Rattle.find_nests.proofs.BoundLimits.LimitLaws.{can_add_ends, sized_difference}
use Rattle.find_nests.proofs.bound_limits.forms.WideForm.span.Goals as goal

pub plus-requires : goal.plus-requires
plus-requires c = can_add_ends (wide_form_of c.args.self.now) (wide_form_of c.args.other.now) c.requires.left c.requires.right

pub plus_constant-requires : goal.plus_constant-requires
plus_constant-requires c =
    let f = wide_form_of c.args.self.now in
    let g = wide_form_of c.args.other.now in
    let is : wide_form_of c.in_ok-form.form ≡ difference f g = search rules in
    let small : nat_abs (difference f g).constant ≤ 2 ^ 108 = (sized_difference f g c.requires.left c.requires.right).constant in
    let here : nat_abs c.in_ok-form.form.constant ≤ 2 ^ 108 = subst (λ (h : Form). nat_abs h.constant ≤ 2 ^ 108) (sym is) small in
    let fits : SFits w128 c.args.more = search rules in
    let more : nat_abs (to_z w128 (of_z w128 c.args.more)) ≤ 2 ^ 31 = subst (λ z. nat_abs z ≤ 2 ^ 31) (sym (to_z-of_z w128 c.args.more fits)) c.requires.more in
    omega (arith, here, more)
