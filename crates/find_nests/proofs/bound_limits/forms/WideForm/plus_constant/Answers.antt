use Rattle.std.proofs.Common.{◌≡◌, ◌∙◌, ◌+◌, ◌≤◌, ◌<◌, ◌^◌, ap, sym, subst, rules, arith, ℤ, pos, negsuc, ◌+ℤ◌, ◌*ℤ◌, neg_ℤ, nat_abs, Bool, true, false, List, [], ◌∷◌, ◌++◌, map, drop, length, max, get_or, SFits, to_z, of_z, IfOk}
use Rattle.find_nests.specs.bound_limits.View.{wide_form_of}
use Rattle.find_nests.proofs.BoundLimits.LimitLaws.{plus_constant-is}
use Rattle.find_nests.proofs.bound_limits.forms.WideForm.plus_constant.Goals as goal

pub returns : goal.returns
returns c = plus_constant-is (wide_form_of c.args.self.now) _ c.args.number (c.in_ok-from_slice.ensures.items ∙ c.as_slice.ensures.value) (search rules)
