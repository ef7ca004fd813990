use Rattle.std.proofs.Common.{◌≡◌, ◌∙◌, ◌+◌, ◌<◌, ap, arith, length, map, rules, sym}
use Rattle.std.proofs.lemmas.Grind.{common_steps}
use Rattle.nest.specs.Bodies.{Standing}
use Rattle.nest.specs.View.{nest_of}
use Rattle.nest.specs.statement_loops.Standings.{standing_of}
use Rattle.array_form.specs.holds.Holds.{holds_of, holds_of_standing}
use Rattle.array_form.proofs.holds.Asked.{all_noted_of, few_at, own_noted, standing_place}
use Rattle.array_form.proofs.holds.HoldLaws.{number_more}
use Rattle.array_form.proofs.holds.levels.all_holds.Goals as goal

pub holds_of_standing-requires-clause-few : goal.holds_of_standing-requires-clause-few
holds_of_standing-requires-clause-few c =
    let n = nest_of c.args.nest.now in
    let here : c.loop-place.place < length c.as_slice-in-loop-place.result.now = search rules in
    few_at n c.as_slice-in-loop-place.result.now c.loop-place.place c.index-as_slice-place.result (ap (map standing_of) c.as_slice-in-loop-place.ensures ∙ c.in_ok-standings.ensures) here c.index-as_slice-place.is
    c.requires.few_loops

pub holds_of_standing-requires-clause-own : goal.holds_of_standing-requires-clause-own
holds_of_standing-requires-clause-own c =
    let n = nest_of c.args.nest.now in
    let here : c.loop-place.place < length c.as_slice-in-loop-place.result.now = search rules in
    let there : c.loop-place.place < length c.as_slice-in-loop-place-2.result.now = search rules in
    own_noted n c.as_slice-in-loop-place.result.now c.as_slice-in-loop-place-2.result.now c.loop-place.place c.index-as_slice-place.result c.index-as_slice-place-in-loop-place.result
    (all_noted_of n c.as_slice.result.now c.as_slice-in-loop-place.result.now c.in_ok-noted.noted c.as_slice-in-loop-place-2.result.now (c.as_slice.ensures ∙ sym c.as_slice-in-loop-place.ensures) (sym c.as_slice-in-loop-place-2.ensures)
    c.in_ok-noted.ensures.noted)
    here there c.index-as_slice-place.is c.index-as_slice-place-in-loop-place.is

pub loop-place-preserved : goal.loop-place-preserved
loop-place-preserved c =
    let n = nest_of c.args.nest.now in
    let here : c.loop-place.place < length c.as_slice-in-loop-place.result.now = search rules in
    let more : c.in_ok-more.more ≡ holds_of_standing n (c.loop-place.place + 1) (standing_of c.index-as_slice-place.result) = first_of (cc, search rules, grind (arith, common_steps)) in
    number_more (holds_of n) c.loop-place.place c.loop-place.all c.push_all.new.all c.as_slice-in-loop-place-4.result.now c.loop-place.invariant c.in_ok-push_all.ensures
    (c.as_slice-in-loop-place-4.ensures ∙ (more
    ∙ ap (λ (x : Standing). holds_of_standing n (c.loop-place.place + 1) x)
    (standing_place n c.as_slice-in-loop-place.result.now c.loop-place.place c.index-as_slice-place.result (ap (map standing_of) c.as_slice-in-loop-place.ensures ∙ c.in_ok-standings.ensures) here c.index-as_slice-place.is)))
