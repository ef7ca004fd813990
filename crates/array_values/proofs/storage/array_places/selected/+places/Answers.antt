use Rattle.std.proofs.Common.{◌≡◌, sym, ap, subst, ◌∙◌, arith, [], ◌∷◌, ◌++◌, map}
use Rattle.std.proofs.lemmas.List.{append-nil, at_drop_all}
use Rattle.std.specs.List.{flat_map}
use Rattle.tree.specs.View.{bounds_of}
use Rattle.meaning.specs.Store.{column_major}
use Rattle.meaning.specs.Sections.{numbers_of}
use Rattle.machine.specs.Storage.{offset, bounds_list}
use Rattle.array_values.specs.Selections.{axis_in}
use Rattle.array_values.specs.storage.array_places.Places.{AxesStand, row, somes}
use Rattle.array_values.proofs.storage.ArrayPlaces.Rows.{places_more, places_none, places_below, end_places, end_within, empty_list}
use Rattle.array_values.proofs.storage.array_places.selected.+places.Goals as goal

pub returns-in_default-clause-places : goal.returns-in_default-clause-places
returns-in_default-clause-places t c =
    end_places (bounds_list c.args.dims.now) (map axis_in c.args.axes.now) c.push.new.self (ap (map axis_in) (empty_list c.args.axes.now c.in_default.ensures.cases)) c.requires.stand
    (c.in_ok-push.ensures.ok ∙ ap (λ ks. ks ++ 0 ∷ []) c.new-all.ensures)

pub returns-in_default-clause-within : goal.returns-in_default-clause-within
returns-in_default-clause-within t c =
    end_within (bounds_list c.args.dims.now) (map axis_in c.args.axes.now) c.push.new.self (ap (map axis_in) (empty_list c.args.axes.now c.in_default.ensures.cases)) c.requires.stand
    (c.in_ok-push.ensures.ok ∙ ap (λ ks. ks ++ 0 ∷ []) c.new-all.ensures)

pub returns-then-size-eq0-clause-places : goal.returns-then-size-eq0-clause-places
returns-then-size-eq0-clause-places t c =
    let a = c.in-Some.ensures.cases.0 in
    let d = c.in-Some-split_first.ensures.cases.0 in
    let both = subst (λ ds. AxesStand (bounds_list ds) (map axis_in c.args.axes.now)) d (c.requires.stand) in
    let stand = subst (λ as'. AxesStand (bounds_list (c.in-Some-split_first.dim.now ∷ c.in-Some-split_first.inner.now)) (map axis_in as')) a both in
    let none = places_none (bounds_of c.in-Some-split_first.dim.now) (bounds_list c.in-Some-split_first.inner.now) (axis_in c.in-Some.axis.now) (map axis_in c.in-Some.more.now)
    (sym c.size.ensures.value ∙ c.if-size-eq0.true) stand in
    let at = subst (λ ds. map (offset (bounds_list ds)) (column_major (map numbers_of (map axis_in (c.in-Some.axis.now ∷ c.in-Some.more.now)))) ≡ somes []) (sym d) none in
    subst (λ as'. map (offset (bounds_list c.args.dims.now)) (column_major (map numbers_of (map axis_in as'))) ≡ somes c.new-all.result) (sym a)
    (at ∙ ap somes (sym c.new-all.ensures))

pub returns-clause-places : goal.returns-clause-places
returns-clause-places t c =
    let a = c.in-Some.ensures.cases.0 in
    let d = c.in-Some-split_first.ensures.cases.0 in
    let both = subst (λ ds. AxesStand (bounds_list ds) (map axis_in c.args.axes.now)) d (c.requires.stand) in
    let stand = subst (λ as'. AxesStand (bounds_list (c.in-Some-split_first.dim.now ∷ c.in-Some-split_first.inner.now)) (map axis_in as')) a both in
    let rows = row (bounds_of c.in-Some-split_first.dim.now) (numbers_of (axis_in c.in-Some.axis.now)) in
    let more = places_more (bounds_of c.in-Some-split_first.dim.now) (bounds_list c.in-Some-split_first.inner.now) (axis_in c.in-Some.axis.now) (map axis_in c.in-Some.more.now) c.in_ok-rest.rest
    stand c.in_ok-rest.ensures.places in
    let done : c.loop-place.all ≡ flat_map rows c.in_ok-rest.rest
    = sym (append-nil c.loop-place.all) ∙ sym (at_drop_all (λ ks. c.loop-place.all ++ flat_map rows ks) c.as_slice-place-items.result.now c.loop-place.place-index (omega arith))
    ∙ c.loop-place.invariant ∙ ap (flat_map rows) c.as_slice-place-items.ensures in
    let at = subst (λ ds. map (offset (bounds_list ds)) (column_major (map numbers_of (map axis_in (c.in-Some.axis.now ∷ c.in-Some.more.now)))) ≡ somes (flat_map rows c.in_ok-rest.rest)) (sym d) more in
    subst (λ as'. map (offset (bounds_list c.args.dims.now)) (column_major (map numbers_of (map axis_in as'))) ≡ somes c.loop-place.all) (sym a)
    (at ∙ ap somes (sym done))

pub returns-clause-within : goal.returns-clause-within
returns-clause-within t c = places_below (bounds_list c.args.dims.now) (column_major (map numbers_of (map axis_in c.args.axes.now))) c.loop-place.all (returns-clause-places t c)
