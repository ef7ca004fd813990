use Rattle.std.proofs.Common.{◌≡◌, ◌∙◌, ◌+◌, ◌≤◌, ◌<◌, ◌^◌, ap, sym, subst, rules, arith, ℤ, pos, negsuc, ◌+ℤ◌, ◌*ℤ◌, neg_ℤ, nat_abs, Bool, true, false, List, [], ◌∷◌, ◌++◌, map, drop, length, max, get_or, IfOk}
use Rattle.std.specs.Prelude.{◌&&◌}
use Rattle.find_nests.specs.bound_limits.Limits.{keeps_limits, plus_constant, dividend, end_keeps_limits}
use Rattle.find_nests.specs.bound_limits.View.{wide_form_of}
use Rattle.find_nests.proofs.BoundLimits.LimitLaws.{refused, accepted, first_is_small, top_is_small}
use Rattle.find_nests.proofs.bound_limits.forms.WideForm.all_keep_limits.Goals as goal

pub returns-then-not-three : goal.returns-then-not-three
returns-then-not-three c =
    let first = wide_form_of c.args.self.now in
    let last = wide_form_of c.args.last.now in
    let less = wide_form_of c.in_ok-less.less in
    let top = wide_form_of c.in_ok-top.top in
    let less-is : less ≡ plus_constant first (neg_ℤ c.args.step) = search rules in
    let top-is : top ≡ dividend c.args.step first last = search rules in
    let three = c.keeps_limits_with-three.result in
    let three-is : three ≡ (keeps_limits c.args.symbols 0 first && (keeps_limits c.args.symbols 0 less && keeps_limits c.args.symbols 0 top)) = search rules in
    let out : three ≡ false = search rules in
    record {
      value = refused c.args.symbols c.args.step first last less top less-is top-is three three-is out;
      small = λ e. let no : ⊥ = cc in absurd no;
    }

pub end_keeps_limits-requires-clause-first : goal.end_keeps_limits-requires-clause-first
end_keeps_limits-requires-clause-first c =
    let first = wide_form_of c.args.self.now in
    let last = wide_form_of c.args.last.now in
    let less = wide_form_of c.in_ok-less.less in
    let top = wide_form_of c.in_ok-top.top in
    let less-is : less ≡ plus_constant first (neg_ℤ c.args.step) = search rules in
    let top-is : top ≡ dividend c.args.step first last = search rules in
    let three = c.keeps_limits_with-three.result in
    let three-is : three ≡ (keeps_limits c.args.symbols 0 first && (keeps_limits c.args.symbols 0 less && keeps_limits c.args.symbols 0 top)) = search rules in
    let within : three ≡ true = search rules in
    first_is_small c.args.symbols c.args.step first last less top less-is top-is three three-is within

pub end_keeps_limits-requires-clause-top : goal.end_keeps_limits-requires-clause-top
end_keeps_limits-requires-clause-top c =
    let first = wide_form_of c.args.self.now in
    let last = wide_form_of c.args.last.now in
    let less = wide_form_of c.in_ok-less.less in
    let top = wide_form_of c.in_ok-top.top in
    let less-is : less ≡ plus_constant first (neg_ℤ c.args.step) = search rules in
    let top-is : top ≡ dividend c.args.step first last = search rules in
    let three = c.keeps_limits_with-three.result in
    let three-is : three ≡ (keeps_limits c.args.symbols 0 first && (keeps_limits c.args.symbols 0 less && keeps_limits c.args.symbols 0 top)) = search rules in
    let within : three ≡ true = search rules in
    top_is_small c.args.symbols c.args.step first last less top less-is top-is three three-is within

pub returns : goal.returns
returns c =
    let first = wide_form_of c.args.self.now in
    let last = wide_form_of c.args.last.now in
    let less = wide_form_of c.in_ok-less.less in
    let top = wide_form_of c.in_ok-top.top in
    let less-is : less ≡ plus_constant first (neg_ℤ c.args.step) = search rules in
    let top-is : top ≡ dividend c.args.step first last = search rules in
    let three = c.keeps_limits_with-three.result in
    let three-is : three ≡ (keeps_limits c.args.symbols 0 first && (keeps_limits c.args.symbols 0 less && keeps_limits c.args.symbols 0 top)) = search rules in
    let within : three ≡ true = search rules in
    let is : c.in_ok-kept.kept ≡ end_keeps_limits c.args.symbols c.args.step first top = search rules in
    record {
      value = accepted c.args.symbols c.args.step first last less top less-is top-is three three-is c.in_ok-kept.kept within is;
      small = λ e. first_is_small c.args.symbols c.args.step first last less top less-is top-is three three-is within;
    }
