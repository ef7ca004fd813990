use Rattle.std.proofs.Common.{◌≡◌, take}
use Rattle.std.specs.List.{fold}
use Rattle.tree.specs.Arguments.{taken}
use Rattle.array_expressions.proofs.numbers.call.Given as goal

abbrev pub invariant-loop-value : goal.invariant-loop-value
invariant-loop-value l = l.arguments ≡ taken l.function (take l.value-index l.values)
