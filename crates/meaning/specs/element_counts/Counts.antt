-- Counts of the elements of arrays.
use Rattle.std.specs.Prelude.{ℕ, ◌+◌, min}
use Rattle.tree.specs.Limits.{most_array_elements}

-- a count, where more than there may be count as one more than those
abbrev pub capped : ℕ → ℕ
capped n = min n (most_array_elements + 1)
