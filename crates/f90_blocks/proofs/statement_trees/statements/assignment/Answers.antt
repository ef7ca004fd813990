use Rattle.std.proofs.Common.{Some, rules}
use Rattle.f90_trees.specs.Hiding.{function_in}
use Rattle.f90_blocks.specs.statement_trees.Results.{IsLeftOf}
use Rattle.f90_blocks.proofs.StatementTrees.DeedLaws.{assign_done}
use Rattle.f90_blocks.proofs.statement_trees.statements.assignment.Goals as goal

pub returns : goal.returns
returns c l r a b =
    let f = function_in c.args.functions.now in
    let h : IsLeftOf f l (Some c.in-Some.left) = search rules in
    assign_done f c.args.line c.args.mark l r c.in-Some.left c.in_ok-right.right h (c.in_ok-right.ensures r b)
