use Rattle.std.proofs.Common.{◌≡◌, ◌+◌, ◌<◌, ◌^◌, vec_len}
use Rattle.f90_trees.specs.Calls.{count_above}
use Rattle.f90_trees.specs.CallViews.{stack}
use Rattle.f90_trees.proofs.calls.count_values.Given as goal

abbrev pub invariant-counting : goal.invariant-counting
invariant-counting l =
    (count_above (stack l.initial.entries.items) 0 ≡ count_above (stack l.entries.items) l.count)
    × (l.count + vec_len l.entries < 2 ^ 64)

abbrev pub decreases-counting : goal.decreases-counting
decreases-counting l = vec_len l.entries
