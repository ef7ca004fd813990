-- The loops so far.
use Rattle.std.proofs.Common.{◌≡◌, map, take}
use Rattle.nest.specs.View.{loop_of}
use Rattle.array_form.specs.holds.Surroundings.{counted_loop}
use Rattle.array_form.proofs.holds.loops.all_counted.Given as goal

abbrev pub invariant-loop-turns : goal.invariant-loop-turns
invariant-loop-turns l = l.all ≡ map counted_loop (map loop_of (take l.turns-index l.turns-items))
