use Rattle.std.proofs.Common.{◌≡◌, [], ◌∷◌, ◌∙◌, ap, length, arith, rules}
use mathlib.Core.Path.{ap₂}
use Rattle.std.proofs.lemmas.Grind.{common_steps}
use Rattle.tree.specs.Plain.{Binary}
use Rattle.tree.specs.declared.ops.Op.TheVariants.{Mul}
use Rattle.std.proofs.Common.{ℤ, Some, SFits, subst}
use Rattle.std.specs.Int.{w64}
use Rattle.std.proofs.lemmas.Int.{to_z-of_z}
use Rattle.linear_forms.specs.Linear.{limited, multiple, sum}
use Rattle.linear_forms.specs.Affines.{IsFound}
use Rattle.array_form.specs.forms.Forms.{number_text, form_of_trip}
use Rattle.array_form.specs.forms.Loops.{form_names_of}
use Rattle.array_form.specs.holds.Surroundings.{form_trip_of}
use Rattle.array_form.specs.holds.View.{surroundings_view}
use Rattle.array_form.proofs.SectionLaws.{multiple_first}
use Rattle.array_form.proofs.SubscriptLaws.{upper_ok}
use Rattle.array_form.proofs.section_bounds.upper_text.Goals as goal

pub returns : goal.returns
returns c = λ r is.
    let a = c.args.a.now in
    let n = length a.loops in
    let form = form_of_trip (form_names_of (surroundings_view a)) (form_trip_of (length a.loops) c.args.turns.now.trip) in
    let trips : c.push.new.self ≡ c.in_ok-trip_text.field-0 ∷ [] = first_of (cc, search rules, grind (arith, common_steps)) in
    let fits : SFits w64 c.args.times = search rules in
    let P : ℤ → Type 0 = λ z. IsFound n (limited n (Some (sum r (multiple z form)))) c.combined.result in
    let found = multiple_first n r form c.args.times c.combined.result
    (subst P (to_z-of_z w64 c.args.times fits) (c.combined.ensures n r form c.requires.places.loops is c.trip_form-form.ensures)) in
    upper_ok a c.args.turns.now c.args.times c.in_ok-first.first c.in_ok-trip_text.field-0 c.push.new.self r c.sum_text.result trips c.in_ok-trip_text.ensures
    (c.in_ok-first.ensures ∙ ap₂ (Binary Mul) (c.in_ok-number_text.ensures ∙ ap number_text (to_z-of_z w64 c.args.times fits)) c.in_ok-trip.ensures)
    (c.sum_text.ensures (multiple c.args.times form) r found is)
