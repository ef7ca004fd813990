-- The walks so far stand behind what stood there.
use Rattle.std.proofs.Common.{◌≡◌, ◌++◌, map, take}
use Rattle.emission.specs.emission_pieces.Cycles.{cycle_at}
use Rattle.emission.proofs.nest_emission.loop_cycles.add_walks.Given as goal

abbrev pub invariant-loop-walk : goal.invariant-loop-walk
invariant-loop-walk l = l.cycles ≡ l.fn.cycles ++ map (cycle_at l.level) (take l.walk-index l.walks)
