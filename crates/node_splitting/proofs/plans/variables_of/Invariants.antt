use Rattle.std.proofs.Common.{◌≡◌, map, take}
use Rattle.nest.specs.View.{loop_of}
use Rattle.node_splitting.specs.Counts.{variables_from_outside}
use Rattle.node_splitting.proofs.plans.variables_of.Given as goal

abbrev pub invariant-loop-turns : goal.invariant-loop-turns
invariant-loop-turns l = l.names ≡ variables_from_outside (map loop_of (take l.turns-index l.turns-items))
