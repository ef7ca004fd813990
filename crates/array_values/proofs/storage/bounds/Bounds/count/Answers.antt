use Rattle.std.proofs.Common.{◌≡◌, ◌≤◌, ◌^◌}
use Rattle.std.specs.Prelude.{MatchOption}
use Rattle.meaning.specs.Extents.{elements_of}
use Rattle.array_values.proofs.storage.HeldBounds.{filled, none_held}
use Rattle.array_values.proofs.storage.bounds.Bounds.count.Goals as goal

pub returns-in-Filled : goal.returns-in-Filled
returns-in-Filled c =
    filled c.args.self.now c.in-Filled.dims c.as_slice.result.now c.in-Filled.is c.as_slice.ensures
    (λ bs. MatchOption c.count.result (2 ^ 64 ≤ elements_of bs) (λ n. elements_of bs ≡ n)) c.count.ensures

pub returns-in-Empty : goal.returns-in-Empty
returns-in-Empty c = none_held c.args.self.now c.in-Empty.field-0 c.in-Empty.is
