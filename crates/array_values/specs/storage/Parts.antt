-- The arrays that references to a name stand for (ISO/IEC 1539:1991, section 6.2.2).
use Rattle.std.specs.Prelude.{Result, Ok, ℕ, List, map}
use Rattle.tree.specs.Steps.{◌>>=◌}
use Rattle.tree.specs.declared.ops.Fault.{Fault}
use Rattle.meaning.specs.Store.{Store, bounds_in, stored_bounds, column_major}
use Rattle.meaning.specs.ArrayValues.{Array}
use Rattle.meaning.specs.Sections.{Axis, Selector, axes_on, whole_axes, extents_of, numbers_of, cells_along}
use Rattle.array_values.specs.declared.storage.slots.Slot.{Slot}
use Rattle.array_values.specs.storage.Slots.{bounds_now, held_here}

-- what is selected along these axes
abbrev pub array_along : List ℕ → List Axis → Store → Array
array_along x axes s = record { extents = extents_of axes; values = map s.held (cells_along x axes) }

abbrev pub whole_array : List ℕ → Store → Result Array Fault
whole_array x s = do
  bs ← stored_bounds x s
  Ok (array_along x (whole_axes bs) s)

abbrev pub part_array : List ℕ → List Selector → Store → Result Array Fault
part_array x zs s = do
  bs ← stored_bounds x s
  axes ← axes_on bs zs
  Ok (array_along x axes s)

-- ---- the same of one slot

abbrev pub array_here : Slot → List Axis → Array
array_here v axes = record {
  extents = extents_of axes;
  values = map (held_here v) (column_major (map numbers_of axes));
}

abbrev pub whole_here : Slot → Result Array Fault
whole_here v = do
  bs ← bounds_in (bounds_now v)
  Ok (array_here v (whole_axes bs))

abbrev pub part_here : Slot → List Selector → Result Array Fault
part_here v zs = do
  bs ← bounds_in (bounds_now v)
  axes ← axes_on bs zs
  Ok (array_here v axes)
