-- The copies so far are those of the items so far.
use Rattle.std.proofs.Common.{◌≡◌, map, take}
use Rattle.nest.specs.View.{made_of}
use Rattle.interchange.proofs.nests.copy_made.Given as goal

abbrev pub invariant-loop-array : goal.invariant-loop-array
invariant-loop-array l = map made_of l.copies ≡ map made_of (take l.array-index l.array-items)
