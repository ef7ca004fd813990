use Rattle.std.proofs.Common.{◌≡◌, drop}
use Rattle.meaning.specs.ArrayValues.{each}
use Rattle.array_values.specs.Arrays.{elements_in}
use Rattle.array_values.specs.Positions.{position_at}
use Rattle.array_values.proofs.Steps.{left_of}
use Rattle.array_values.proofs.prepared.Prepared.values_at.Given as goal

abbrev pub invariant-loop-place : goal.invariant-loop-place
invariant-loop-place l =
    each (λ k. (elements_in l.self).at (position_at l.extents k)) l.places
    ≡ left_of (λ k. (elements_in l.self).at (position_at l.extents k)) l.values (drop l.place-index l.places)
