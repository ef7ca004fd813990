use Rattle.std.proofs.Common.{◌≡◌, refl, ◌∙◌, ◌+◌, ◌*◌, ◌≤◌, ◌<◌, ◌^◌, ap, sym, subst, rules, arith, ℤ, pos, nat_abs, Bool, true, false, not, Some, List, [], ◌∷◌, ◌++◌, map, filter, length, SFits, to_z, of_z, option_map, IfSome}
use Rattle.std.specs.Int.{w128}
use Rattle.std.proofs.lemmas.Int.{to_z-of_z}
use Rattle.std.proofs.lemmas.List.{length-map}
use Rattle.tree.specs.View.{expression_of}
use Rattle.nest_reasons.specs.Increments.{step_of}
use Rattle.find_nests.specs.declared.bound_limits.around.Outer.{Outer as Outer'}
use Rattle.find_nests.specs.declared.bound_limits.forms.WideForm.{WideForm}
use Rattle.find_nests.specs.bound_limits.Composed.{Outer, composed_bound}
use Rattle.find_nests.specs.bound_limits.Limits.{all_keep_limits, normal}
use Rattle.find_nests.specs.bound_limits.Loops.{leaves_limits, as_outer}
use Rattle.find_nests.specs.bound_limits.View.{wide_form_of, outer_of, IsSized}
use Rattle.find_nests.proofs.BoundLimits.WalkLaws.{step_size, by_limits, outer-is}
use Rattle.find_nests.proofs.bound_limits.walk.Limits.inner.Goals as goal

pub all_keep_limits-requires-clause-first : goal.all_keep_limits-requires-clause-first
all_keep_limits-requires-clause-first c = subst (λ o. IfSome o (λ (w : WideForm). IsSized (2 ^ 107) (wide_form_of w))) c.in-Some-lower_bound.is c.in_ok-lower_bound.ensures.size

pub all_keep_limits-requires-clause-last : goal.all_keep_limits-requires-clause-last
all_keep_limits-requires-clause-last c = subst (λ o. IfSome o (λ (w : WideForm). IsSized (2 ^ 107) (wide_form_of w))) c.in-Some-upper_bound.is c.in_ok-upper_bound.ensures.size

pub all_keep_limits-requires-clause-step : goal.all_keep_limits-requires-clause-step
all_keep_limits-requires-clause-step c =
    let z = c.in-Some.number in
    let step = expression_of c.args.step.now in
    let is : Some z ≡ step_of step = sym c.in-Some.is ∙ c.step_of.ensures in
    let size : c.widened-size.result ≡ z = search rules in
    let fits : SFits w128 c.widened-size.result = search rules in
    let same : to_z w128 (of_z w128 c.widened-size.result) ≡ z = to_z-of_z w128 c.widened-size.result fits ∙ size in
    subst (λ w. (1 ≤ nat_abs w) × (nat_abs w ≤ 2 ^ 31)) (sym same) (step_size step z is)

pub normal-requires-clause-step : goal.normal-requires-clause-step
normal-requires-clause-step c =
    let z = c.in-Some.number in
    let step = expression_of c.args.step.now in
    let is : Some z ≡ step_of step = sym c.in-Some.is ∙ c.step_of.ensures in
    let size : c.widened-size.result ≡ z = search rules in
    let fits : SFits w128 c.widened-size.result = search rules in
    let same : to_z w128 (of_z w128 c.widened-size.result) ≡ z = to_z-of_z w128 c.widened-size.result fits ∙ size in
    subst (λ w. nat_abs w ≤ 2 ^ 31) (sym same) (step_size step z is).1

pub returns : goal.returns
returns c =
    let symbols = c.args.self.now.symbols in
    let around = map outer_of c.args.around.now in
    let a = expression_of c.args.first.now in
    let b = expression_of c.args.last.now in
    let step = expression_of c.args.step.now in
    let z = c.in-Some.number in
    let f = wide_form_of c.in-Some-lower_bound.lower in
    let l = wide_form_of c.in-Some-upper_bound.upper in
    let is : Some z ≡ step_of step = sym c.in-Some.is ∙ c.step_of.ensures in
    let lower : Some f ≡ composed_bound symbols around a = sym (ap (option_map wide_form_of) c.in-Some-lower_bound.is) ∙ c.in_ok-lower_bound.ensures.value in
    let upper : Some l ≡ composed_bound symbols around b = sym (ap (option_map wide_form_of) c.in-Some-upper_bound.is) ∙ c.in_ok-upper_bound.ensures.value in
    let size : c.widened-size.result ≡ z = search rules in
    let count : c.len-symbols.result ≡ length symbols = search rules in
    let decided : c.in_ok-kept.kept ≡ all_keep_limits c.len-symbols.result c.widened-size.result f l = search rules in
    let kept : c.in_ok-kept.kept ≡ all_keep_limits (length symbols) z f l =
    decided ∙ ap (λ n. all_keep_limits n c.widened-size.result f l) count ∙ ap (λ w. all_keep_limits (length symbols) w f l) size in
    let yes' : c.in_ok-kept.kept ≡ true = search rules in
    let stays : leaves_limits symbols around a b step ≡ false = by_limits symbols around a b step z f l c.in_ok-kept.kept is lower upper kept ∙ ap not yes' in
    let place = c.len-symbols.result + length c.args.around.now in
    let placed : place ≡ length symbols + length around = ap (λ n. n + length c.args.around.now) count ∙ ap (λ n. length symbols + n) (sym (length-map c.args.around.now outer_of)) in
    let made : wide_form_of c.in_ok-form.form ≡ normal place c.widened-size.result f = search rules in
    let form : wide_form_of c.in_ok-form.form ≡ normal place z f = made ∙ ap (λ w. normal place w f) size in
    let outer : Outer = record { variable = c.args.variable; form = wide_form_of c.in_ok-form.form } in
    let same : outer ≡ as_outer symbols around c.args.variable a step = outer-is symbols around a b step c.args.variable z f outer place is lower placed refl form in
    (stays, same, c.in_ok-form.ensures.size)
