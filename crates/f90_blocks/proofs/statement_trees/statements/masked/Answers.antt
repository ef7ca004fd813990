use Rattle.std.proofs.Common.{Some, rules}
use Rattle.f90_trees.specs.Hiding.{function_in}
use Rattle.f90_blocks.specs.statement_trees.Results.{IsLeftOf}
use Rattle.f90_blocks.proofs.StatementTrees.FormLaws.{masked_given}
use Rattle.f90_blocks.proofs.statement_trees.statements.masked.Goals as goal

pub returns : goal.returns
returns c p l r g a b =
    let f = function_in c.args.functions.now in
    let h : IsLeftOf f l (Some c.in-Some.left) = search rules in
    masked_given f c.args.line c.args.mark p l r c.in_ok-mask.mask c.in-Some.left c.in_ok-right.right
    (c.in_ok-mask.ensures p g) h (c.in_ok-right.ensures r b)
