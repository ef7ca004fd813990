use Rattle.std.proofs.Common.{◌≡◌, take}
use Rattle.tree.specs.View.{expression_of}
use Rattle.nest_reasons.specs.Standing.{standing}
use Rattle.nest_reasons.proofs.names.standing.Given as goal

abbrev pub invariant-loop-variable : goal.invariant-loop-variable
invariant-loop-variable l = l.found ≡ standing (take l.variable-index l.variables) (expression_of l.expr)
