use Rattle.std.proofs.Common.{◌≡◌, drop}
use Rattle.tree.specs.Operators.{as_number, as_numbers}
use Rattle.array_values.proofs.Steps.{left_of}
use Rattle.array_values.proofs.known.Known.numbers.Given as goal

abbrev pub invariant-loop-value : goal.invariant-loop-value
invariant-loop-value l = as_numbers l.self.values ≡ left_of as_number l.numbers (drop l.value-index l.value-items)
