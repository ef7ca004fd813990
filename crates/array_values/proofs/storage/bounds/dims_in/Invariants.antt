use Rattle.std.proofs.Common.{◌≡◌, take}
use Rattle.machine.specs.Storage.{bounds_list}
use Rattle.array_values.specs.Counts.{ranges_in}
use Rattle.array_values.proofs.storage.bounds.dims_in.Given as goal

abbrev pub invariant-loop-range : goal.invariant-loop-range
invariant-loop-range l = bounds_list l.dims ≡ ranges_in (take l.range-index l.ranges)
