use Rattle.f90_trees.proofs.BuildLaws.{bounded_is}
use Rattle.f90_trees.proofs.building.bounded.Goals as goal

pub returns : goal.returns
returns c = bounded_is _ _ _ _ _ c.in-Some.ensures c.in_ok-put.ensures
