use Rattle.std.specs.Prelude.{IfOk}
use Rattle.meaning.specs.Sections.{whole_axes}
use Rattle.array_values.specs.storage.array_places.Selecting.{IsSelection}
use Rattle.array_values.proofs.storage.HeldBounds.{filled, empty}
use Rattle.array_values.proofs.storage.bounds.Bounds.select_all.Goals as goal

pub returns-in-Filled : goal.returns-in-Filled
returns-in-Filled c =
    filled c.args.self.now c.in-Filled.dims c.as_slice.result.now c.in-Filled.is c.as_slice.ensures
    (λ bs. IfOk c.select_all.result (IsSelection bs (whole_axes bs))) c.select_all.ensures

pub returns-in_ok-select_all_of_none-in-Empty : goal.returns-in_ok-select_all_of_none-in-Empty
returns-in_ok-select_all_of_none-in-Empty c =
    empty c.args.self.now c.in-Empty.ranges c.in-Empty.is
    (λ bs. IsSelection bs (whole_axes bs) c.in_ok-select_all_of_none-in-Empty.field-0) c.in_ok-select_all_of_none-in-Empty.ensures
