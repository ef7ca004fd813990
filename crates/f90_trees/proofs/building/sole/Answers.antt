use Rattle.f90_trees.proofs.BuildLaws.{sole_other}
use Rattle.f90_trees.proofs.building.sole.Goals as goal

pub returns-in_default : goal.returns-in_default
returns-in_default c = sole_other _ c.in_default.ensures
