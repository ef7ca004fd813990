use Rattle.std.proofs.Common.{arith}
use Rattle.meaning.specs.Extents.{elements_of}
use Rattle.machine.specs.Storage.{offset, bounds_list}
use Rattle.machine.proofs.StoreLaws.{offset_below}
use Rattle.array_values.proofs.storage.ArrayPlaces.Rows.{saturated_fits}
use Rattle.array_values.proofs.storage.array_places.elements.place.Goals as goal

pub overflow_cast-result : goal.overflow_cast-result
overflow_cast-result c =
    let fits = saturated_fits (offset (bounds_list c.args.dims.now) c.args.numbers.now) (elements_of (bounds_list c.args.dims.now)) c.in_ok-place.place
    (offset_below (bounds_list c.args.dims.now) c.args.numbers.now) c.requires c.in_ok-place.ensures in
    omega (arith, fits.0, c.requires)

pub returns-clause-place : goal.returns-clause-place
returns-clause-place c = (saturated_fits (offset (bounds_list c.args.dims.now) c.args.numbers.now) (elements_of (bounds_list c.args.dims.now)) c.in_ok-place.place
    (offset_below (bounds_list c.args.dims.now) c.args.numbers.now) c.requires c.in_ok-place.ensures).1

pub returns-clause-within : goal.returns-clause-within
returns-clause-within c = (saturated_fits (offset (bounds_list c.args.dims.now) c.args.numbers.now) (elements_of (bounds_list c.args.dims.now)) c.in_ok-place.place
    (offset_below (bounds_list c.args.dims.now) c.args.numbers.now) c.requires c.in_ok-place.ensures).0
