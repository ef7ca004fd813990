use Rattle.std.proofs.Common.{◌≡◌, take}
use Rattle.last_values.specs.normal_forms.NormalLoops as normal
use Rattle.last_values.proofs.normal_forms.loops.variables_of.Given as goal

abbrev pub invariant-loop-turns : goal.invariant-loop-turns
invariant-loop-turns l = l.names.items ≡ normal.variables_of (take l.turns-index l.round)
