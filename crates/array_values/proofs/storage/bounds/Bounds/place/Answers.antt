use Rattle.std.proofs.Common.{◌≡◌, sym, ◌<◌, ◌^◌}
use Rattle.std.specs.Prelude.{IfSome}
use Rattle.meaning.specs.Extents.{elements_of}
use Rattle.machine.specs.Storage.{offset}
use Rattle.array_values.specs.storage.Bounds.{bounds_held}
use Rattle.array_values.proofs.storage.EmptyBounds.{no_place}
use Rattle.array_values.proofs.storage.HeldBounds.{filled, of_dims, none_held}
use Rattle.array_values.proofs.storage.bounds.Bounds.place.Goals as goal

pub place-requires : goal.place-requires
place-requires c =
    of_dims c.args.self.now c.in-Filled.dims c.as_slice.result.now c.in-Filled.is c.as_slice.ensures (λ bs. elements_of bs < 2 ^ 64) c.requires

pub returns-in-Filled-clause-place : goal.returns-in-Filled-clause-place
returns-in-Filled-clause-place c =
    filled c.args.self.now c.in-Filled.dims c.as_slice.result.now c.in-Filled.is c.as_slice.ensures
    (λ bs. c.place.result ≡ offset bs c.args.numbers.now) c.place.ensures.place

pub returns-in-Filled-clause-within : goal.returns-in-Filled-clause-within
returns-in-Filled-clause-within c =
    filled c.args.self.now c.in-Filled.dims c.as_slice.result.now c.in-Filled.is c.as_slice.ensures
    (λ bs. IfSome c.place.result (λ k. k < elements_of bs)) c.place.ensures.within

pub returns-in-Empty-clause-place : goal.returns-in-Empty-clause-place
returns-in-Empty-clause-place c =
    sym (no_place (bounds_held c.args.self.now) c.args.numbers.now (none_held c.args.self.now c.in-Empty.field-0 c.in-Empty.is))
