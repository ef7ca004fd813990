use Rattle.std.proofs.Common.{◌≡◌, ◌++◌, drop, length}
use Rattle.std.specs.List.{flat_map}
use Rattle.tree.specs.View.{bounds_of}
use Rattle.meaning.specs.Sections.{numbers_of}
use Rattle.array_values.specs.Selections.{axis_in}
use Rattle.array_values.specs.storage.array_places.Places.{row}
use Rattle.array_values.proofs.storage.array_places.selected.+places.Given as goal

abbrev pub decreases-places : goal.decreases-places
decreases-places l = length l.axes.now

abbrev pub invariant-loop-place : goal.invariant-loop-place
invariant-loop-place l =
    l.all ++ flat_map (row (bounds_of l.dim) (numbers_of (axis_in l.axis))) (drop l.place-index l.place-items)
    ≡ flat_map (row (bounds_of l.dim) (numbers_of (axis_in l.axis))) l.place-items
