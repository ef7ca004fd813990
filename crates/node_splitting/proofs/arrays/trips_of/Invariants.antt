-- The trips so far are those of the loops so far.
use Rattle.std.proofs.Common.{◌≡◌, Some, map, take}
use Rattle.nest.specs.View.{loop_of}
use Rattle.node_splitting.specs.Arrays.{trips_if_all}
use Rattle.node_splitting.proofs.arrays.trips_of.Given as goal

abbrev pub invariant-loop-turns : goal.invariant-loop-turns
invariant-loop-turns l = trips_if_all (map loop_of (take l.turns-index l.loops)) ≡ Some l.trips
