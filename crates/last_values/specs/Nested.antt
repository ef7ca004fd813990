-- Loops of a nest with those round them.
use Rattle.std.specs.Prelude.{◌≤◌, pos, ◌<ℤ◌, length}
use Rattle.last_values.specs.declared.behind.NestedLoop.{NestedLoop}

-- a loop in at most six others, with a positive divisor of its trip
pub record IsNested (l : NestedLoop) : Type 0 where
  pub deep : length l.round ≤ 6
  pub divisor : pos 0 <ℤ l.turns.trip.by
