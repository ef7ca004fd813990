use Rattle.std.proofs.Common.{◌≡◌, drop}
use Rattle.meaning.specs.Extents.{elements_of}
use Rattle.array_values.specs.Counts.{ranges_in}
use Rattle.array_values.proofs.storage.bounds.is_without_elements.Given as goal

abbrev pub invariant-loop-range : goal.invariant-loop-range
invariant-loop-range l = elements_of (ranges_in l.ranges) ≡ 0 → elements_of (ranges_in (drop l.range-index l.ranges)) ≡ 0
