use Rattle.std.proofs.Common.{◌≡◌, drop}
use Rattle.tree.specs.View.{bounds_of}
use Rattle.meaning.specs.ArrayValues.{each}
use Rattle.array_values.specs.Selections.{bounded}
use Rattle.array_values.proofs.Steps.{left_of}
use Rattle.array_values.proofs.sections.along.Given as goal

abbrev pub invariant-loop-number : goal.invariant-loop-number
invariant-loop-number l = each (bounded (bounds_of l.dim)) l.numbers ≡ left_of (bounded (bounds_of l.dim)) l.selected (drop l.number-index l.numbers)
