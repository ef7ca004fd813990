use Rattle.std.proofs.Common.{◌≡◌, ◌-◌, map}
use Rattle.meaning.specs.ArrayValues.{each, positions, counted}
use Rattle.array_values.specs.Arrays.{elements_in}
use Rattle.array_values.specs.Positions.{position_at}
use Rattle.array_values.proofs.Steps.{left_of}
use Rattle.array_values.proofs.prepared.Prepared.all_values.Given as goal

abbrev pub invariant-loop-place : goal.invariant-loop-place
invariant-loop-place l =
    each (elements_in l.self).at (positions l.extents)
    ≡ left_of (elements_in l.self).at l.values (map (position_at l.extents) (counted l.place (l.count - l.place)))
