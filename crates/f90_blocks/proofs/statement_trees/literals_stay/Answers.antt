use Rattle.f90_blocks.proofs.StatementTrees.NarrowLaws.{literals_stay}
use Rattle.f90_blocks.proofs.statement_trees.literals_stay.Goals as goal

pub returns : goal.returns
returns c = literals_stay
