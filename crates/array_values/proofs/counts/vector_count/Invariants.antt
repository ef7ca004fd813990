use Rattle.std.proofs.Common.{◌≡◌, drop}
use Rattle.meaning.specs.Sections.{all_stand_in}
use Rattle.array_values.specs.Counts.{range_in}
use Rattle.array_values.proofs.counts.vector_count.Given as goal

abbrev pub invariant-loop-number : goal.invariant-loop-number
invariant-loop-number l = all_stand_in (range_in l.range) l.numbers ≡ all_stand_in (range_in l.range) (drop l.number-index l.numbers)
