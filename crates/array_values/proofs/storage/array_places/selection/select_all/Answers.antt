use Rattle.std.proofs.Common.{◌≡◌, sym, ap, subst, ◌∙◌, arith, ◌++◌, ◌∷◌, [], ◌<◌, map}
use Rattle.std.specs.Prelude.{All}
use Rattle.meaning.specs.Store.{column_major}
use Rattle.meaning.specs.Sections.{numbers_of, extents_of, whole_axes}
use Rattle.meaning.specs.Extents.{elements_of}
use Rattle.array_values.specs.storage.array_places.Places.{somes}
use Rattle.array_values.proofs.storage.ArrayPlaces.Stages.{places_count}
use Rattle.meaning.specs.ArrayValues.{counted, size}
use Rattle.machine.specs.Storage.{bounds_list, offset}
use Rattle.array_values.proofs.storage.ArrayPlaces.Whole.{counted_next, counted_below, whole_places, whole_extents}
use Rattle.array_values.proofs.storage.array_places.selection.select_all.Goals as goal

pub loop-place-init : goal.loop-place-init
loop-place-init c = c.from_vec-places.ensures ∙ c.in_ok-with_capacity.ensures.items

pub loop-place-preserved : goal.loop-place-preserved
loop-place-preserved c = c.in_ok-push.ensures.ok ∙ ap (λ ks. ks ++ c.loop-place.place ∷ []) c.loop-place.invariant ∙ sym (counted_next c.loop-place.place)

pub returns : goal.returns
returns c =
    let bs = bounds_list c.args.dims.now in
    let e : c.loop-place.place ≡ elements_of bs = omega (arith, c.in-Some.ensures) in
    let are : c.loop-place.places ≡ counted 0 (elements_of bs) = c.loop-place.invariant ∙ ap (counted 0) e in
    let x : c.in_ok-extents.extents ≡ extents_of (whole_axes bs) = c.in_ok-extents.ensures ∙ whole_extents bs in
    let p : map (offset bs) (column_major (map numbers_of (whole_axes bs))) ≡ somes c.loop-place.places = whole_places bs ∙ ap somes (sym are) in
    record {
      extents = x;
      places = p;
      count = places_count bs (whole_axes bs) c.loop-place.places p ∙ ap size (sym x);
      within = subst (All (λ k. k < elements_of bs)) (sym are) (counted_below (elements_of bs) 0 (elements_of bs) (omega arith));
    }
