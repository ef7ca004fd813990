use Rattle.std.proofs.Common.{◌≡◌, ◌++◌, drop, map}
use Rattle.meaning.specs.Store.{size_of}
use Rattle.machine.specs.Storage.{bounds_list}
use Rattle.array_values.proofs.storage.array_places.elements.extents.Given as goal

abbrev pub invariant-loop-dim : goal.invariant-loop-dim
invariant-loop-dim l = l.extents ++ map size_of (bounds_list (drop l.dim-index l.dims)) ≡ map size_of (bounds_list l.dims)
