use Rattle.f90_trees.proofs.BuildLaws.{strided_is}
use Rattle.f90_trees.proofs.building.strided.Goals as goal

pub returns : goal.returns
returns c = strided_is _ _ _ _ _ _ _ c.in-Some.ensures c.in-Some-take_two.ensures c.in_ok-put.ensures
