-- Whether a name stands in an arm of a block IF, outside the loops of which it is the variable.
use Rattle.std.specs.Prelude.{ℕ, Bool, ◌||◌, List}
use Rattle.nest.specs.View.{Branch}
use Rattle.last_values.specs.Occurrences.{stands_in, stands_outside_in_each}

module _ (v : List ℕ) where
  -- an arm of a block IF
  abbrev pub stands_outside_in_branch : Branch → Bool
  stands_outside_in_branch b = stands_in v b.test || stands_outside_in_each v b.body
