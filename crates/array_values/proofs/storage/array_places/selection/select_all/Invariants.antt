use Rattle.std.proofs.Common.{◌≡◌}
use Rattle.meaning.specs.ArrayValues.{counted}
use Rattle.array_values.proofs.storage.array_places.selection.select_all.Given as goal

abbrev pub invariant-loop-place : goal.invariant-loop-place
invariant-loop-place l = l.places ≡ counted 0 l.place
