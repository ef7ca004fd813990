use Rattle.std.proofs.Common.{◌≡◌, ◌<◌, length, pos, get_or, ap, rules, ◌∙◌}
use Rattle.std.specs.List.{position_or_len}
use Rattle.std.specs.Str.{bytes_eq}
use Rattle.std.proofs.Common.{SFits, refl}
use Rattle.std.specs.Int.{w64}
use Rattle.std.proofs.lemmas.Int.{to_z-of_z}
use Rattle.array_form.specs.forms.Forms.{number_text}
use Rattle.array_form.specs.Texts.{lower_of, upper_of}
use Rattle.array_form.specs.forms.Loops.{form_without, form_names_of}
use Rattle.array_form.specs.holds.View.{loop_names, surroundings_view}
use Rattle.array_form.proofs.SubscriptLaws.{place_small, rest_affine, section_made}
use Rattle.array_form.proofs.section_bounds.section.Goals as goal

pub bounds-form-place : goal.bounds-form-place
bounds-form-place c =
    let small : c.place_of-place.result < 7 =
    place_small c.args.a.now c.args.turns.now c.as_slice.result.now c.place_of-place.result c.as_slice.ensures c.requires.turns c.requires.places.loops c.place_of-place.ensures.place in
    small

pub without-rest-requires : goal.without-rest-requires
without-rest-requires c =
    place_small c.args.a.now c.args.turns.now c.as_slice.result.now c.place_of-place.result c.as_slice.ensures c.requires.turns c.requires.places.loops c.place_of-place.ensures.place

pub returns : goal.returns
returns c = λ f is.
    let a = c.args.a.now in
    let l = c.args.turns.now in
    let g = c.args.form.now in
    let place = c.place_of-place.result in
    let few = c.requires.places.loops in
    let seven : length g.loops ≡ 7 = search rules in
    let at : place ≡ position_or_len (λ x. bytes_eq x l.var) (loop_names a.loops) =
    c.place_of-place.ensures.place ∙ ap (λ ls. position_or_len (λ x. bytes_eq x l.var) (loop_names ls)) c.as_slice.ensures in
    let rest = rest_affine a l f g c.without-rest.result place few seven c.requires.turns is at c.without-rest.ensures in
    let z = get_or g.loops place (pos 0) in
    let fits : SFits w64 z = search rules in
    let other = form_without (form_names_of (surroundings_view a)) l.var f in
    let same = to_z-of_z w64 z fits in
    section_made a l f g place z c.in_ok-lower.lower c.in_ok-upper.upper c.in_ok-number_text.field-0 few c.requires.turns is at refl
    (c.in_ok-lower.ensures other rest ∙ ap (λ t. lower_of a l t other) same) (c.in_ok-upper.ensures other rest ∙ ap (λ t. upper_of a l t other) same)
    (c.in_ok-number_text.ensures ∙ ap number_text same)
