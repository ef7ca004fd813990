use Rattle.std.proofs.Common.{◌≡◌, [], vec_len}
use Rattle.f90_trees.specs.Calls.{parts_above}
use Rattle.f90_trees.specs.CallViews.{stack, parts_seen}
use Rattle.f90_trees.proofs.calls.take_parts.Given as goal

abbrev pub invariant-taking : goal.invariant-taking
invariant-taking l = parts_above (stack l.initial.entries.items) [] ≡ parts_above (stack l.entries.items) (parts_seen l.parts.items)

abbrev pub decreases-taking : goal.decreases-taking
decreases-taking l = vec_len l.entries
