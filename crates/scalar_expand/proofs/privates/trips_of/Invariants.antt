use Rattle.std.proofs.Common.{◌≡◌, map, take}
use Rattle.scalar_expand.specs.Privates.{trips_of}
use Rattle.scalar_expand.proofs.privates.trips_of.Given as goal

abbrev pub invariant-loop-turns : goal.invariant-loop-turns
invariant-loop-turns l = l.trips ≡ trips_of (take l.turns-index l.loops)
