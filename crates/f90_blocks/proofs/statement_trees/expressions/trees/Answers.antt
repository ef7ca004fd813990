use Rattle.std.proofs.Common.{arith, ◌≡◌, ◌<◌, length, get_or, rules}
use Rattle.f90_expressions.specs.Reading.{IsMadeOf}
use Rattle.f90_trees.specs.Hiding.{function_in}
use Rattle.f90_blocks.proofs.StatementTrees.LoopLaws.{passed}
use Rattle.f90_blocks.proofs.StatementTrees.PartLaws.{trees_more}
use Rattle.f90_blocks.proofs.statement_trees.expressions.trees.Goals as goal

pub making-preserved : goal.making-preserved
making-preserved c all a =
    let l : c.making.expression-index < length c.args.expressions.now = first_of (omega arith, search rules) in
    let g : get_or c.args.expressions.now c.making.expression-index c.expression-item.result
    ≡ c.expression-item.result = first_of (cc, search rules) in
    passed IsMadeOf _ _ c.args.expressions.now c.making.expression-index c.expression-item.result all l g
    (λ done p m h. trees_more (function_in c.args.functions.now) done p c.making.made c.push.new.self _
    c.in_ok-push.ensures.ok (c.in_ok-tree.ensures p m) h)
    (c.making.invariant all a)
