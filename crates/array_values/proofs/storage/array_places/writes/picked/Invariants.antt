use Rattle.std.proofs.Common.{◌≡◌, ◌++◌, drop}
use Rattle.array_values.specs.storage.array_places.Places.{places_there}
use Rattle.array_values.proofs.storage.array_places.writes.picked.Given as goal

abbrev pub invariant-loop-at : goal.invariant-loop-at
invariant-loop-at l = l.all.items ++ places_there l.places (drop l.at-index l.chosen) ≡ places_there l.places l.chosen
