use Rattle.f90_trees.proofs.BuildLaws.{turned_round_is}
use Rattle.f90_trees.proofs.building.turned_round.Goals as goal

pub returns : goal.returns
returns c = turned_round_is c.args.var _ _ _ _ _ _ _ _ _ c.in-Some.ensures c.in-Some-take_turn.ensures c.in_ok-push.ensures.ok c.in_ok-put.ensures
