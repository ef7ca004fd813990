use Rattle.f90_trees.proofs.BuildingLaws.{makes_tree}
use Rattle.f90_trees.proofs.laws.list_makes_tree.Goals as goal

pub returns : goal.returns
returns c = makes_tree
