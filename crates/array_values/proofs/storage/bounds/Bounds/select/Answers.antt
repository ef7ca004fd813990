use Rattle.std.proofs.Common.{◌<◌, ◌^◌, map}
use Rattle.meaning.specs.Extents.{elements_of}
use Rattle.meaning.specs.Sections.{axes_on}
use Rattle.array_values.specs.Selections.{selector_in}
use Rattle.array_values.specs.storage.array_places.Selecting.{Selects}
use Rattle.array_values.proofs.storage.HeldBounds.{filled, of_dims, empty}
use Rattle.array_values.proofs.storage.bounds.Bounds.select.Goals as goal

pub select-requires : goal.select-requires
select-requires c =
    of_dims c.args.self.now c.in-Filled.dims c.as_slice.result.now c.in-Filled.is c.as_slice.ensures (λ bs. elements_of bs < 2 ^ 64) c.requires

pub returns-in-Filled : goal.returns-in-Filled
returns-in-Filled c =
    filled c.args.self.now c.in-Filled.dims c.as_slice.result.now c.in-Filled.is c.as_slice.ensures
    (λ bs. Selects bs (axes_on bs (map selector_in c.args.selectors.now)) c.select.result) c.select.ensures

pub returns-in-Empty : goal.returns-in-Empty
returns-in-Empty c =
    empty c.args.self.now c.in-Empty.ranges c.in-Empty.is
    (λ bs. Selects bs (axes_on bs (map selector_in c.args.selectors.now)) c.select_none.result) c.select_none.ensures
