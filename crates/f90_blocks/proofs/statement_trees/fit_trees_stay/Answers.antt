use Rattle.f90_blocks.proofs.StatementTrees.FitLaws.{fit_trees_stay}
use Rattle.f90_blocks.proofs.statement_trees.fit_trees_stay.Goals as goal

pub returns : goal.returns
returns c = fit_trees_stay
