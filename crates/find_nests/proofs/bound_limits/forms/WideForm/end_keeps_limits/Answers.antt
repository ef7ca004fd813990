use Rattle.std.proofs.Common.{◌≡◌, ◌∙◌, ◌+◌, ◌≤◌, ◌<◌, ◌^◌, ap, sym, subst, rules, arith, ℤ, pos, negsuc, ◌+ℤ◌, ◌*ℤ◌, neg_ℤ, nat_abs, Bool, true, false, List, [], ◌∷◌, ◌++◌, map, drop, length, max, get_or, IfOk, SFits, to_z, of_z}
use Rattle.std.specs.Int.{w128}
use Rattle.std.proofs.lemmas.Int.{to_z-of_z}
use Rattle.find_nests.specs.bound_limits.Limits.{is_constant_form, keeps_limits, folded, plus_constant}
use Rattle.find_nests.specs.bound_limits.View.{wide_form_of, CanAdd}
use Rattle.find_nests.proofs.BoundLimits.LimitLaws.{can_add_end, end_of_constant}
use Rattle.find_nests.proofs.bound_limits.forms.WideForm.end_keeps_limits.Goals as goal

pub plus-requires : goal.plus-requires
plus-requires c =
    let fits : SFits w128 c.args.step = search rules in
    subst (λ k. CanAdd (wide_form_of c.args.self.now) k (wide_form_of c.args.top.now)) (sym (to_z-of_z w128 c.args.step fits))
    (can_add_end (wide_form_of c.args.self.now) (wide_form_of c.args.top.now) c.args.step c.requires.first c.requires.step.1 c.requires.top)

pub returns-then-is_constant : goal.returns-then-is_constant
returns-then-is_constant c =
    let first = wide_form_of c.args.self.now in
    let top = wide_form_of c.args.top.now in
    let end = wide_form_of c.in_ok-end.end in
    let h : is_constant_form top ≡ true = search rules in
    let e : end ≡ plus_constant first (c.args.step *ℤ folded c.args.step top) = search rules in
    let is : c.keeps_limits.result ≡ keeps_limits c.args.symbols 0 end = search rules in
    end_of_constant c.args.symbols c.args.step first top end c.keeps_limits.result h e is
