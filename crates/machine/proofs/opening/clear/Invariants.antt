use Rattle.machine.proofs.OpeningLaws.{IsFilled}
use Rattle.machine.proofs.opening.clear.Given as goal

abbrev pub invariant-loop-variable : goal.invariant-loop-variable
invariant-loop-variable l = IsFilled l.variables l.values l.start l.variable-index
