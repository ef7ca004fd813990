use Rattle.std.proofs.Common.{◌≡◌, take}
use Rattle.array_values.specs.Counts.{ranges_in}
use Rattle.array_values.specs.storage.Bounds.{from_one}
use Rattle.array_values.proofs.storage.bounds.ranges_from_one.Given as goal

abbrev pub invariant-loop-extent : goal.invariant-loop-extent
invariant-loop-extent l = ranges_in l.list ≡ from_one (take l.extent-index l.extents)
