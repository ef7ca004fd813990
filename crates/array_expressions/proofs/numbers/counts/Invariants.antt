use Rattle.std.proofs.Common.{◌≡◌, take, map}
use Rattle.meaning.specs.Sections.{not_negative}
use Rattle.array_expressions.proofs.numbers.counts.Given as goal

abbrev pub invariant-loop-number : goal.invariant-loop-number
invariant-loop-number l = l.counts ≡ map not_negative (take l.number-index l.numbers)
