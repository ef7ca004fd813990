use Rattle.std.proofs.Common.{◌≡◌, drop, take}
use Rattle.meaning.specs.Dialect.{fortran90}
use Rattle.meaning.specs.ArrayValues.{each}
use Rattle.meaning.specs.ArrayStatements.{storable}
use Rattle.array_values.proofs.Steps.{left_of}
use Rattle.array_values.proofs.storage.array_places.writes.check_all.Given as goal

abbrev pub invariant-loop-value : goal.invariant-loop-value
invariant-loop-value l = each (storable (fortran90 l.width)) l.values ≡ left_of (storable (fortran90 l.width)) (take l.value-index l.values) (drop l.value-index l.values)
