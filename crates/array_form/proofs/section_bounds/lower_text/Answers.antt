use Rattle.std.proofs.Common.{◌≡◌, [], ◌∷◌, length, pos, arith, rules}
use Rattle.std.proofs.lemmas.Grind.{common_steps}
use Rattle.std.proofs.Common.{ℤ, Some, SFits, subst, ap, ◌∙◌}
use Rattle.array_form.specs.forms.Forms.{number_text}
use Rattle.std.specs.Int.{w64}
use Rattle.std.proofs.lemmas.Int.{to_z-of_z}
use Rattle.linear_forms.specs.Linear.{constant_form, limited, multiple, sum}
use Rattle.linear_forms.specs.Affines.{IsFound}
use Rattle.array_form.proofs.SectionLaws.{constant_first, one_affine}
use Rattle.array_form.proofs.SubscriptLaws.{lower_ok}
use Rattle.array_form.proofs.section_bounds.lower_text.Goals as goal

pub returns : goal.returns
returns c = λ r is.
    let a = c.args.a.now in
    let n = length a.loops in
    let trips : c.push.new.self ≡ c.in_ok-trip_text.field-0 ∷ [] = first_of (cc, search rules, grind (arith, common_steps)) in
    let fits : SFits w64 c.args.times = search rules in
    let P : ℤ → Type 0 = λ z. IsFound n (limited n (Some (sum r (multiple z (constant_form (pos 1)))))) c.combined.result in
    let found = constant_first n r c.args.times c.combined.result
    (subst P (to_z-of_z w64 c.args.times fits) (c.combined.ensures n r (constant_form (pos 1)) c.requires.places.loops is (one_affine n))) in
    lower_ok a c.args.turns.now c.args.times c.in_ok-first.first c.in_ok-trip_text.field-0 c.push.new.self r c.sum_text.result trips c.in_ok-trip_text.ensures (c.in_ok-first.ensures ∙ ap number_text (to_z-of_z w64 c.args.times fits))
    (c.sum_text.ensures (constant_form c.args.times) r found is)
