use Rattle.std.proofs.Common.{◌≡◌, ◌++◌, drop}
use Rattle.tree.specs.View.{bounds_of}
use Rattle.array_values.specs.storage.array_places.Places.{row}
use Rattle.array_values.proofs.storage.array_places.selected.push_numbers.Given as goal

abbrev pub invariant-loop-number : goal.invariant-loop-number
invariant-loop-number l = l.all ++ row (bounds_of l.dim) (drop l.number-index l.numbers) l.rest ≡ l.initial.all ++ row (bounds_of l.dim) l.numbers l.rest
