use Rattle.std.proofs.Common.{◌≡◌, map, take}
use Rattle.nest.specs.Plain.{Loop}
use Rattle.nest.specs.View.{loop_of}
use Rattle.statement_passes.proofs.texts.variables_of.Given as goal

abbrev pub invariant-loop-turns : goal.invariant-loop-turns
invariant-loop-turns l = l.names ≡ map (λ (m : Loop). m.variable) (map loop_of (take l.turns-index l.turns-items))
