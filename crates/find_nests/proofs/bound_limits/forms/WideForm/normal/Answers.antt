use Rattle.std.proofs.Common.{◌≡◌, ◌∙◌, ◌+◌, ◌*◌, ◌≤◌, ◌<◌, ◌^◌, ap, sym, subst, rules, arith, ℤ, pos, negsuc, ◌+ℤ◌, ◌*ℤ◌, neg_ℤ, nat_abs, Bool, true, false, List, [], ◌∷◌, ◌++◌, map, drop, length, max, get_or, IfOk, SFits, to_z, of_z}
use Rattle.std.specs.Int.{w128}
use Rattle.std.proofs.lemmas.Int.{to_z-of_z}
use Rattle.linear_forms.specs.Linear.{Form, sum, multiple}
use Rattle.linear_forms.specs.Places.{unit_form}
use Rattle.find_nests.specs.bound_limits.Limits.{normal, plus_constant}
use Rattle.find_nests.specs.bound_limits.View.{wide_form_of, IsSized, CanAdd}
use Rattle.find_nests.proofs.BoundLimits.LimitLaws.{can_add_turns, sized_turns, sized_normal}
use Rattle.find_nests.proofs.bound_limits.forms.WideForm.normal.Goals as goal

pub plus-requires : goal.plus-requires
plus-requires c =
    let f = wide_form_of c.args.self.now in
    let is : wide_form_of c.in_ok-iterations.iterations ≡ unit_form c.args.place = search rules in
    let fits : SFits w128 c.args.step = search rules in
    subst (λ k. CanAdd f k (wide_form_of c.in_ok-iterations.iterations)) (sym (to_z-of_z w128 c.args.step fits))
    (subst (λ (g : Form). CanAdd f c.args.step g) (sym is) (can_add_turns f c.args.step c.args.place c.requires.first c.requires.step))

pub plus_constant-requires : goal.plus_constant-requires
plus_constant-requires c =
    let f = wide_form_of c.args.self.now in
    let is : wide_form_of c.in_ok-iterations.iterations ≡ unit_form c.args.place = search rules in
    let more : wide_form_of c.in_ok-turns.turns ≡ sum f (multiple c.args.step (wide_form_of c.in_ok-iterations.iterations)) = search rules in
    let turns : wide_form_of c.in_ok-turns.turns ≡ sum f (multiple c.args.step (unit_form c.args.place)) = more ∙ ap (λ (g : Form). sum f (multiple c.args.step g)) is in
    let here : nat_abs c.in_ok-turns.turns.constant ≤ 2 ^ 40 + 2 ^ 31 * 1 =
    subst (λ (h : Form). nat_abs h.constant ≤ 2 ^ 40 + 2 ^ 31 * 1) (sym turns) (sized_turns f c.args.step c.args.place c.requires.first c.requires.step).constant in
    let size : nat_abs c.negated.result ≡ nat_abs c.args.step = search rules in
    let less : nat_abs c.negated.result ≤ 2 ^ 31 = omega (arith, size, c.requires.step) in
    let fits : SFits w128 c.negated.result = search rules in
    let moved : nat_abs (to_z w128 (of_z w128 c.negated.result)) ≤ 2 ^ 31 = subst (λ z. nat_abs z ≤ 2 ^ 31) (sym (to_z-of_z w128 c.negated.result fits)) less in
    omega (arith, here, moved)

pub returns : goal.returns
returns c =
    let f = wide_form_of c.args.self.now in
    let is : wide_form_of c.in_ok-iterations.iterations ≡ unit_form c.args.place = search rules in
    let more : wide_form_of c.in_ok-turns.turns ≡ sum f (multiple c.args.step (wide_form_of c.in_ok-iterations.iterations)) = search rules in
    let turns : wide_form_of c.in_ok-turns.turns ≡ sum f (multiple c.args.step (unit_form c.args.place)) = more ∙ ap (λ (g : Form). sum f (multiple c.args.step g)) is in
    let last : wide_form_of c.in_ok-form.form ≡ plus_constant (wide_form_of c.in_ok-turns.turns) (neg_ℤ c.args.step) = search rules in
    let whole : wide_form_of c.in_ok-form.form ≡ normal c.args.place c.args.step f = last ∙ ap (λ (g : Form). plus_constant g (neg_ℤ c.args.step)) turns in
    record { value = whole; size = subst (IsSized (2 ^ 41)) (sym whole) (sized_normal f c.args.step c.args.place c.requires.first c.requires.step) }
