use Rattle.std.proofs.Common.{◌≡◌, ◌∙◌, ◌+◌, ◌≤◌, ◌<◌, ◌^◌, ap, sym, subst, rules, arith, ℤ, pos, negsuc, ◌+ℤ◌, ◌*ℤ◌, neg_ℤ, nat_abs, Bool, true, false, List, [], ◌∷◌, ◌++◌, map, drop, length, max, get_or, SFits, to_z, of_z, IfOk}
use Rattle.linear_forms.specs.Linear.{added}
use Rattle.find_nests.specs.bound_limits.View.{wide_form_of}
use Rattle.find_nests.proofs.BoundLimits.LimitLaws.{sum-is}
use Rattle.find_nests.proofs.bound_limits.forms.WideForm.plus.Goals as goal

pub returns : goal.returns
returns c =
    let f = wide_form_of c.args.self.now in
    let g = wide_form_of c.args.other.now in
    let coefficients : c.in_ok-combined.field-0.items ≡ added f.coefficients (map (λ a. c.args.times *ℤ a) g.coefficients) = search rules in
    sum-is f g _ c.args.times coefficients (search rules)
