use Rattle.f90_trees.specs.Hiding.{function_in}
use Rattle.f90_blocks.proofs.StatementTrees.FormLaws.{allocate_given}
use Rattle.f90_blocks.proofs.statement_trees.statements.allocate.Goals as goal

pub returns : goal.returns
returns c es a m k =
    allocate_given (function_in c.args.functions.now) c.args.line m c.args.name es c.in_ok-extents.extents k
    (c.in_ok-extents.ensures es a)
