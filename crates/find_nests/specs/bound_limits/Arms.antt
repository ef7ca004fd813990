-- Whether a loop in an arm of a block IF leaves the limits.
use Rattle.std.specs.Prelude.{ℕ, Bool, List}
use Rattle.tree.specs.View.{Tested}
use Rattle.find_nests.specs.bound_limits.Composed.{Outer}
use Rattle.find_nests.specs.bound_limits.Walks.{any_leaves_block}

module _ (symbols : List (List ℕ)) where
  abbrev pub any_leaves_arm : List Outer → Tested → Bool
  any_leaves_arm around t = any_leaves_block symbols around t.body
