-- The numbers of the statements so far.
use Rattle.std.proofs.Common.{◌≡◌, map, take}
use Rattle.nest.specs.Bodies.{statement_number}
use Rattle.emission.proofs.nest_emission.loop_cycles.cycle_of.Given as goal

abbrev pub invariant-loop-statement : goal.invariant-loop-statement
invariant-loop-statement l = l.stmts ≡ map statement_number (take l.statement-index l.walk)
