use Rattle.std.proofs.Common.{◌≡◌, ◌<◌, ◌++◌, drop}
use Rattle.meaning.specs.ArrayValues.{size}
use Rattle.array_values.specs.Positions.{position_at}
use Rattle.array_values.proofs.extents.set_position.Given as goal

-- the numbers of the dimensions so far, and what is left of the place
abbrev pub invariant-loop-extent : goal.invariant-loop-extent
invariant-loop-extent l = record {
  within : l.rest < size (drop l.extent-index l.extents);
  position : l.position.items ++ position_at (drop l.extent-index l.extents) l.rest ≡ position_at l.extents l.place;
}
