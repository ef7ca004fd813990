use Rattle.std.proofs.Common.{◌≡◌, drop}
use Rattle.tree.specs.Widths.{bits_of}
use Rattle.array_values.specs.Arrays.{reduced_values}
use Rattle.array_values.proofs.Numbers.{left_to_reduce}
use Rattle.array_values.proofs.known.Known.reduce.Given as goal

abbrev pub invariant-loop-value : goal.invariant-loop-value
invariant-loop-value l = reduced_values (bits_of l.width) l.reduction l.self.values ≡ left_to_reduce (bits_of l.width) l.reduction l.gathered (drop l.value-index l.value-items)
