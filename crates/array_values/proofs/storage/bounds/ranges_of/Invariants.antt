use Rattle.std.proofs.Common.{◌≡◌, take}
use Rattle.machine.specs.Storage.{bounds_list}
use Rattle.array_values.specs.Counts.{ranges_in}
use Rattle.array_values.proofs.storage.bounds.ranges_of.Given as goal

abbrev pub invariant-loop-dim : goal.invariant-loop-dim
invariant-loop-dim l = ranges_in l.list ≡ bounds_list (take l.dim-index l.dims)
