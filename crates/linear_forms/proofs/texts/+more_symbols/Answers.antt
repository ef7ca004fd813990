use Rattle.tree.specs.View.{expression_of}
use Rattle.std.proofs.Common.{◌≡◌, ◌∷◌, map, Ok, rules, arith, SFits, subst}
use Rattle.std.specs.Prelude.{slice_get, IfOk}
use Rattle.std.specs.Int.{w64}
use Rattle.std.proofs.lemmas.Int.{to_z-of_z}
use Rattle.std.proofs.lemmas.Grind.{common_steps}
use Rattle.linear_forms.specs.Texts.{with_place, places_behind}
use Rattle.linear_forms.specs.View.{text_so_far}
use Rattle.linear_forms.proofs.TextLaws.{symbols_more, placed}
use Rattle.linear_forms.proofs.texts.+more_symbols.Goals as goal

pub returns : goal.returns
returns t c =
    let all = places_behind c.args.symbols.now (map expression_of c.args.trips.now) in
    let first : c.args.terms.now ≡ c.in-Some.term.now ∷ c.in-Some.terms.now = search rules in
    let fits : SFits w64 c.in-Some.term.now.1 = search rules in
    let done : c.at_place.result ≡ Ok c.in_ok-so_far.so_far = first_of (search rules, grind (arith, common_steps)) in
    let part : text_so_far c.in_ok-part.part ≡ slice_get all c.in-Some.term.now.0 = first_of (search rules, grind (arith, common_steps)) in
    let made = subst (λ z. IfOk c.at_place.result (λ x. text_so_far x ≡ with_place (text_so_far c.args.so_far) z (text_so_far c.in_ok-part.part))) (to_z-of_z w64 c.in-Some.term.now.1 fits) c.at_place.ensures in
    let step = placed c.at_place.result c.in_ok-so_far.so_far (text_so_far c.args.so_far) c.in-Some.term.now.1 (text_so_far c.in_ok-part.part) (slice_get all c.in-Some.term.now.0) done part made in
    symbols_more c.more_symbols.result (text_so_far c.args.so_far) (text_so_far c.in_ok-so_far.so_far) c.args.terms.now c.in-Some.terms.now c.in-Some.term.now all first step c.more_symbols.ensures
