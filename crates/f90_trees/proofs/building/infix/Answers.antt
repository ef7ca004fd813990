use Rattle.f90_trees.proofs.BuildLaws.{infixed_is}
use Rattle.f90_trees.proofs.building.infix.Goals as goal

pub returns : goal.returns
returns c = infixed_is c.args.op _ _ _ _ _ _ _ c.in-Some.ensures c.in_ok-left.ensures.ok c.in_ok-right.ensures.ok c.in_ok-put.ensures
