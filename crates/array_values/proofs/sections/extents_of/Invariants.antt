use Rattle.std.proofs.Common.{◌≡◌, ◌++◌, drop, map}
use Rattle.meaning.specs.Sections.{extents_of}
use Rattle.array_values.specs.Selections.{axis_in}
use Rattle.array_values.proofs.sections.extents_of.Given as goal

abbrev pub invariant-loop-axis : goal.invariant-loop-axis
invariant-loop-axis l = l.extents ++ extents_of (map axis_in (drop l.axis-index l.axes)) ≡ extents_of (map axis_in l.axes)
