use Rattle.f90_trees.proofs.CallLaws.{list_tells}
use Rattle.f90_trees.proofs.laws.list_tells_calls.Goals as goal

pub returns : goal.returns
returns c = list_tells
