use Rattle.std.proofs.Common.{◌≡◌, pos, negsuc, [], ◌∷◌, length, Some, rules, arith, IfOk}
use Rattle.std.proofs.lemmas.Grind.{common_steps}
use Rattle.nest.specs.View.{loop_of}
use Rattle.last_values.specs.normal_forms.Combinations.{times}
use Rattle.last_values.specs.normal_forms.NormalLoops.{bound_form, loop_form, plus_multiple, forms_by_trip}
use Rattle.last_values.proofs.NormalForms.Chains.{by_first}
use Rattle.last_values.proofs.normal_forms.loops.forms_by_first.Goals as goal

pub returns-clause-exact : goal.returns-clause-exact
returns-clause-exact c =
    let xs = c.args.symbols.now in
    let round = c.args.round.now in
    let l = loop_of c.args.turns.now in
    let value : plus_multiple (length xs) c.args.below l.step (loop_form (length round)) ≡ Some c.in-Some.value = first_of (search rules, grind (arith, common_steps)) in
    let top : bound_form xs round l.last (times (negsuc 0) c.args.below ∷ []) ≡ Some c.in-Some-2.top = first_of (search rules, grind (arith, common_steps)) in
    let made : IfOk c.forms_by_trip.result (λ normal. normal ≡ forms_by_trip xs l c.args.first c.args.below c.in-Some.value c.in-Some-2.top) = first_of (search rules, grind (arith, common_steps)) in
    by_first xs round l c.args.first c.args.below c.in-Some.value c.in-Some-2.top c.forms_by_trip.result value top made
