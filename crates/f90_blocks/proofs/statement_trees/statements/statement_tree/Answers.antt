use Rattle.f90_trees.specs.Hiding.{function_in}
use Rattle.f90_blocks.proofs.StatementTrees.PartLaws.{if_ok}
use Rattle.f90_blocks.proofs.StatementTrees.FormLaws.{placed_as, mark_as}
use Rattle.f90_blocks.proofs.StatementTrees.WholeLaws.{given_whole}
use Rattle.f90_blocks.proofs.statement_trees.statements.statement_tree.Goals as goal

pub returns-clause-found : goal.returns-clause-found
returns-clause-found c p h m =
    if_ok _ _ c.tree_at.result (λ made g. placed_as (function_in c.args.functions.now) c.args.placed.now p made h g)
    (c.tree_at.ensures p.form h.is (mark_as c.args.placed.now p h m))

pub returns-clause-whole : goal.returns-clause-whole
returns-clause-whole c p h m k =
    let f = function_in c.args.functions.now in
    if_ok _ _ c.tree_at.result (λ made g. given_whole f p made k (placed_as f c.args.placed.now p made h g))
    (c.tree_at.ensures p.form h.is (mark_as c.args.placed.now p h m))
