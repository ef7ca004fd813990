use Rattle.std.proofs.Common.{◌≡◌, ◌∙◌, ◌+◌, ◌≤◌, ◌<◌, ◌^◌, ap, sym, subst, rules, arith, ℤ, pos, negsuc, ◌+ℤ◌, ◌*ℤ◌, neg_ℤ, nat_abs, Bool, true, false, List, [], ◌∷◌, ◌++◌, map, drop, length, max, get_or, IfOk}
use Rattle.std.specs.Prelude.{int_le}
use Rattle.find_nests.specs.bound_limits.Limits.{difference, plus_constant}
use Rattle.find_nests.specs.bound_limits.View.{wide_form_of}
use Rattle.find_nests.proofs.BoundLimits.LimitLaws.{dividend-up, dividend-down}
use Rattle.find_nests.proofs.bound_limits.forms.WideForm.dividend.Goals as goal

pub returns-then-rises : goal.returns-then-rises
returns-then-rises c =
    let f = wide_form_of c.args.self.now in
    let l = wide_form_of c.args.last.now in
    let h : int_le (pos 0) c.args.step ≡ true = search rules in
    let is : wide_form_of c.in_ok-up.up ≡ plus_constant (difference l f) c.args.step = search rules in
    is ∙ sym (dividend-up c.args.step f l h)

pub returns : goal.returns
returns c =
    let f = wide_form_of c.args.self.now in
    let l = wide_form_of c.args.last.now in
    let h : int_le (pos 0) c.args.step ≡ false = search rules in
    let is : wide_form_of c.in_ok-down.down ≡ plus_constant (difference f l) (neg_ℤ c.args.step) = search rules in
    is ∙ sym (dividend-down c.args.step f l h)
