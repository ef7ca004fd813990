use Rattle.f90_blocks.proofs.StatementTrees.PartLaws.{step_none}
use Rattle.f90_trees.specs.Hiding.{function_in}
use Rattle.f90_blocks.proofs.statement_trees.expressions.step.Goals as goal

pub returns-in-None : goal.returns-in-None
returns-in-None c d h = step_none (function_in c.args.functions.now) c.args.step.now d c.in-None.is h
