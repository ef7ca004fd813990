use Rattle.std.proofs.Common.{◌≡◌, ◌++◌, drop}
use Rattle.array_values.specs.storage.array_places.Places.{values_there}
use Rattle.array_values.proofs.storage.array_places.selected.values_at.Given as goal

abbrev pub invariant-loop-place : goal.invariant-loop-place
invariant-loop-place l = l.all.items ++ values_there l.values (drop l.place-index l.places) ≡ values_there l.values l.places
