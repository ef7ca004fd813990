use Rattle.std.proofs.Common.{◌≡◌, [], vec_len}
use Rattle.f90_trees.specs.Building.{values_above}
use Rattle.f90_trees.specs.Views.{stack, values_seen}
use Rattle.f90_trees.proofs.building.take_values.Given as goal

abbrev pub invariant-taking : goal.invariant-taking
invariant-taking l = values_above (stack l.initial.entries.items) [] ≡ values_above (stack l.entries.items) (values_seen l.values.items)

abbrev pub decreases-taking : goal.decreases-taking
decreases-taking l = vec_len l.entries
