use Rattle.std.proofs.Common.{◌≡◌, map, take}
use Rattle.nest.specs.View.{loop_of}
use Rattle.scalar_expand.specs.Privates.{round_loop}
use Rattle.scalar_expand.proofs.privates.round_loops.Given as goal

abbrev pub invariant-loop-turns : goal.invariant-loop-turns
invariant-loop-turns l = l.all ≡ map round_loop (map loop_of (take l.turns-index l.loops))
