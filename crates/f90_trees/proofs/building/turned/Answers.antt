use Rattle.f90_trees.proofs.BuildLaws.{turned_is}
use Rattle.f90_trees.proofs.building.turned.Goals as goal

pub returns : goal.returns
returns c = turned_is c.args.var _ _ _ _ _ _ _ _ c.in-Some.ensures c.in-Some-take_value.ensures c.in_ok-loops.ensures c.in_ok-put.ensures
