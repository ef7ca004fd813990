-- The copies so far are those of the loops so far.
use Rattle.std.proofs.Common.{◌≡◌, map, take}
use Rattle.nest.specs.View.{loop_of}
use Rattle.statement_passes.proofs.passes.copy_loops.Given as goal

abbrev pub invariant-loop-turns : goal.invariant-loop-turns
invariant-loop-turns l = map loop_of l.copies ≡ map loop_of (take l.turns-index l.turns-items)
