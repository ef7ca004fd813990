use Rattle.std.proofs.Common.{◌≡◌, drop, map}
use Rattle.f90_trees.specs.Calls.{are_values}
use Rattle.f90_trees.specs.CallViews.{part_seen}
use Rattle.f90_trees.proofs.calls.are_values.Given as goal

abbrev pub invariant-loop-part : goal.invariant-loop-part
invariant-loop-part l =
    are_values (map part_seen l.parts) ≡ are_values (map part_seen (drop l.part-index l.parts))
