use Rattle.std.proofs.Common.{◌≡◌, drop, map}
use Rattle.tree.specs.View.{bounds_of}
use Rattle.meaning.specs.Sections.{axes_on}
use Rattle.array_values.specs.Selections.{axis_in, selector_in}
use Rattle.array_values.proofs.AxisLaws.{left_axes}
use Rattle.array_values.proofs.sections.axes.Given as goal

abbrev pub invariant-loop-place : goal.invariant-loop-place
invariant-loop-place l =
    axes_on (map bounds_of l.dims) (map selector_in l.selectors) ≡ left_axes (map axis_in l.axes) (drop l.place l.dims) (drop l.place l.selectors)
