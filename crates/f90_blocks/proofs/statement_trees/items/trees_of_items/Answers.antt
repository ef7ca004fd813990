use Rattle.f90_statement.specs.items.Flat.{flat_items}
use Rattle.f90_trees.specs.Hiding.{function_in}
use Rattle.f90_blocks.proofs.StatementTrees.ListLaws.{whole_list}
use Rattle.f90_blocks.proofs.StatementTrees.PartLaws.{if_ok, parts_of_list, some_parts}
use Rattle.f90_blocks.proofs.statement_trees.items.trees_of_items.Goals as goal

pub made-requires : goal.made-requires
made-requires c = some_parts c.args.list.now c.as_slice.result.now c.as_slice.ensures c.requires

pub returns : goal.returns
returns c is h =
    if_ok _ _ c.made.result (λ made e. whole_list (function_in c.args.functions.now) is made e)
    (c.made.ensures (flat_items is) (parts_of_list c.args.list.now c.as_slice.result.now is c.as_slice.ensures h))
