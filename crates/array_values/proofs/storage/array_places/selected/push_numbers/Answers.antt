use Rattle.std.proofs.Common.{sym, ap, ◌∙◌, arith, rules, pos, get_or, drop, ◌++◌, ◌∷◌, [], ◌+◌, append_assoc, SFits}
use Rattle.std.specs.Int.{w64}
use Rattle.std.proofs.lemmas.Int.{to_z-of_z}
use Rattle.std.proofs.lemmas.List.{at_drop_more}
use Rattle.tree.specs.View.{bounds_of}
use Rattle.array_values.specs.storage.array_places.Places.{row, place_in}
use Rattle.array_values.proofs.storage.ArrayPlaces.Rows.{stand_at}
use Rattle.array_values.proofs.storage.array_places.selected.push_numbers.Goals as goal

pub push_place-requires-clause-stands : goal.push_place-requires-clause-stands
push_place-requires-clause-stands c =
    let x = get_or c.args.numbers.now c.loop-number.number-index (pos 0) in
    let fits : SFits w64 x = search rules in
    rw (to_z-of_z w64 x fits) (stand_at (bounds_of c.args.dim) c.args.numbers.now c.loop-number.number-index (pos 0) c.requires.stands (omega arith))

pub loop-number-preserved : goal.loop-number-preserved
loop-number-preserved c =
    let b = bounds_of c.args.dim in
    let x = get_or c.args.numbers.now c.loop-number.number-index (pos 0) in
    let fits : SFits w64 x = search rules in
    let pushed = c.in_ok-push_place.ensures ∙ ap (λ z. c.loop-number.all ++ place_in b c.args.rest z ∷ []) (to_z-of_z w64 x fits) in
    ap (λ ks. ks ++ row b (drop (c.loop-number.number-index + 1) c.args.numbers.now) c.args.rest) pushed
    ∙ append_assoc c.loop-number.all (place_in b c.args.rest x ∷ []) (row b (drop (c.loop-number.number-index + 1) c.args.numbers.now) c.args.rest)
    ∙ sym (at_drop_more (λ zs. c.loop-number.all ++ row b zs c.args.rest) c.args.numbers.now c.loop-number.number-index (pos 0) (omega arith))
    ∙ c.loop-number.invariant
