use Rattle.std.proofs.Common.{◌≡◌, map, take}
use Rattle.meaning.specs.Store.{size_of}
use Rattle.array_values.specs.Counts.{ranges_in}
use Rattle.array_values.proofs.counts.sizes.Given as goal

abbrev pub invariant-loop-range : goal.invariant-loop-range
invariant-loop-range l = l.sizes ≡ map size_of (ranges_in (take l.range-index l.ranges))
