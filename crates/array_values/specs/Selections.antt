-- What selects parts of arrays.
use Rattle.std.specs.Prelude.{Result, Ok, Err, ℤ, pos, int_lt, int_le, Bool, if◌then◌else◌}
use Rattle.tree.specs.declared.ops.Fault.{Fault}
use Rattle.tree.specs.declared.ops.Fault.TheVariants.{Bounds}
use Rattle.meaning.specs.Sections as meaning
use Rattle.meaning.specs.Sections.{is_within_bounds}
use Rattle.array_values.specs.declared.sections.Selector.{Selector}
use Rattle.array_values.specs.declared.sections.Selector.TheVariants.{Index, Triplet, Vector}
use Rattle.array_values.specs.declared.sections.Axis.{Axis}
use Rattle.array_values.specs.declared.sections.Axis.TheVariants.{Fixed, Along}

abbrev pub selector_in : Selector → meaning.Selector
selector_in (Index z) = meaning.Index z
selector_in (Triplet l u stride) = meaning.Triplet l u stride
selector_in (Vector zs) = meaning.Vector zs

abbrev pub axis_in : Axis → meaning.Axis
axis_in (Fixed z) = meaning.Fixed z
axis_in (Along zs) = meaning.Along zs

-- a number that stands within the bounds
abbrev pub bounded : ℤ × ℤ → ℤ → Result ℤ Fault
bounded b z = if is_within_bounds b z then Ok z else Err Bounds

-- a number of a triplet isn't past the upper bound
abbrev pub goes_on : ℤ → ℤ → ℤ → Bool
goes_on z upper stride = if int_lt (pos 0) stride then int_le z upper else int_le upper z
