use Rattle.std.proofs.Common.{arith, ◌≡◌, ◌∙◌, ◌<◌, ap, sym, [], length, get_or, rules}
use Rattle.f90_statement.specs.items.Views.{IsNodeOf}
use Rattle.f90_trees.specs.Hiding.{function_in}
use Rattle.f90_blocks.specs.statement_trees.Lists.{levels, with_part}
use Rattle.f90_blocks.proofs.StatementTrees.ListLaws.{one_more}
use Rattle.f90_blocks.proofs.StatementTrees.LoopLaws.{passed, one_of}
use Rattle.f90_blocks.proofs.statement_trees.items.made.Goals as goal

pub with_node-requires : goal.with_node-requires
with_node-requires c =
    let l : c.parts.node-index < length c.args.nodes.now = first_of (omega arith, search rules) in
    let g : get_or c.args.nodes.now c.parts.node-index c.node-item.result
    ≡ c.node-item.result = first_of (cc, search rules) in
    one_of IsNodeOf c.args.nodes.now c.parts.node-index c.node-item.result c.requires.all l g c.requires.are_of

pub parts-preserved : goal.parts-preserved
parts-preserved c all a =
    let f = function_in c.args.functions.now in
    let l : c.parts.node-index < length c.args.nodes.now = first_of (omega arith, search rules) in
    let g : get_or c.args.nodes.now c.parts.node-index c.node-item.result
    ≡ c.node-item.result = first_of (cc, search rules) in
    passed IsNodeOf _ _ c.args.nodes.now c.parts.node-index c.node-item.result all l g
    (λ done p m h. c.in_ok-inner.ensures p m ∙ (ap (with_part f p) h ∙ sym (one_more f done p (levels [] []))))
    (c.parts.invariant all a)
