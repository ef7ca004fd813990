use Rattle.std.proofs.Common.{length}
use Rattle.f90_blocks.proofs.Walks.{Walks}
use Rattle.f90_blocks.proofs.building.block.Given as goal

abbrev pub invariant-trees : goal.invariant-trees
invariant-trees l = Walks l.fn.trees l.trees.items l.rest

abbrev pub decreases-trees : goal.decreases-trees
decreases-trees l = length l.trees.items
