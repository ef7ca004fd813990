use Rattle.std.proofs.Common.{◌≡◌, sym, ap, subst, ◌∙◌, map, List}
use Rattle.array_values.specs.declared.sections.Axis.{Axis}
use Rattle.meaning.specs.ArrayValues.{size}
use Rattle.meaning.specs.Sections.{axes_on, numbers_of, extents_of}
use Rattle.machine.specs.Storage.{bounds_list, offset}
use Rattle.meaning.specs.Store.{column_major}
use Rattle.array_values.specs.Selections.{selector_in, axis_in}
use Rattle.array_values.proofs.Steps.{residual}
use Rattle.array_values.specs.storage.array_places.Places.{AxesStand, somes}
use Rattle.array_values.proofs.storage.ArrayPlaces.Standing.{axes_stand, not_selected}
use Rattle.array_values.proofs.storage.ArrayPlaces.Stages.{places_count}
use Rattle.array_values.proofs.storage.array_places.selection.select.Goals as goal

pub returns-in_err-axes : goal.returns-in_err-axes
returns-in_err-axes c =
    rw (residual c.from_residual.ensures.1)
    (not_selected {A = List Axis} (λ axes. map axis_in axes) (bounds_list c.args.dims.now) (axes_on (bounds_list c.args.dims.now) (map selector_in c.args.selectors.now)) c.in_err-axes.field-0.0 c.in_err-axes.ensures)

pub places-requires-clause-stand : goal.places-requires-clause-stand
places-requires-clause-stand c =
    subst (λ as'. AxesStand (bounds_list c.args.dims.now) (map axis_in as')) (sym c.as_slice-2.ensures)
    (axes_stand (bounds_list c.args.dims.now) (map selector_in c.args.selectors.now) (map axis_in c.in_ok-axes.axes) c.in_ok-axes.ensures)

pub returns : goal.returns
returns c =
    let bs = bounds_list c.args.dims.now in
    let axes = map axis_in c.in_ok-axes.axes in
    let e : c.in_ok-extents.extents ≡ extents_of axes = c.in_ok-extents.ensures ∙ ap (λ as'. extents_of (map axis_in as')) c.as_slice.ensures in
    let p : map (offset bs) (column_major (map numbers_of axes)) ≡ somes c.in_ok-places.places
    = subst (λ as'. map (offset bs) (column_major (map numbers_of (map axis_in as'))) ≡ somes c.in_ok-places.places) c.as_slice-2.ensures c.in_ok-places.ensures.places in
    record {
      axes = axes;
      are = c.in_ok-axes.ensures;
      selected = record {
        extents = e;
        places = p;
        count = places_count bs axes c.in_ok-places.places p ∙ ap size (sym e);
        within = c.in_ok-places.ensures.within;
      };
    }
