-- The trips so far are those of the loops so far.
use Rattle.std.proofs.Common.{◌≡◌, Some, map, take}
use Rattle.nest.specs.View.{loop_of}
use Rattle.interchange.specs.Arranged.{free_trips_of}
use Rattle.interchange.proofs.trips.trips_of.Given as goal

abbrev pub invariant-loop-turns : goal.invariant-loop-turns
invariant-loop-turns l = free_trips_of (map loop_of (take l.turns-index l.loops)) ≡ Some l.trips
