use Rattle.f90_trees.proofs.BuildLaws.{single_is}
use Rattle.f90_trees.proofs.building.single.Goals as goal

pub returns : goal.returns
returns c = single_is _ _ _ _ c.in-Some.ensures c.in_ok-put.ensures
