use Rattle.std.proofs.Common.{◌≡◌, take}
use Rattle.std.specs.Int.{int_min}
use Rattle.std.specs.List.{fold}
use Rattle.tree.specs.OperationFaults.{number_in}
use Rattle.tree.proofs.functions.least.Given as goal

abbrev pub invariant-loop-value : goal.invariant-loop-value
invariant-loop-value l = l.best ≡ fold (λ best v. int_min best (number_in v)) l.initial.best (take l.value-index l.args)
