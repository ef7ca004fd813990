use Rattle.f90_blocks.proofs.StatementTrees.FitLaws.{kinds_stay}
use Rattle.f90_blocks.proofs.statement_trees.kinds_stay.Goals as goal

pub returns : goal.returns
returns c = kinds_stay
