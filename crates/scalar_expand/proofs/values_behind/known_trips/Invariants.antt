use Rattle.std.proofs.Common.{◌≡◌, map, take}
use Rattle.tree.specs.View.{subscript_of}
use Rattle.scalar_expand.specs.Expanded.{known_trip_at}
use Rattle.scalar_expand.proofs.values_behind.known_trips.Given as goal

abbrev pub invariant-loop-turns : goal.invariant-loop-turns
invariant-loop-turns l = map subscript_of l.subs.items ≡ map (known_trip_at l.symbols) (take l.turns-index l.loops)
