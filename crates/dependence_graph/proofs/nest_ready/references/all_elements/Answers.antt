use Rattle.std.proofs.Common.{refl, arith, rules}
use Rattle.std.specs.Prelude.{IsTrue}
use Rattle.tree.specs.View.{reference_of}
use Rattle.tree.specs.declared.exprs.Ref.{Ref}
use Rattle.dependence_graph.specs.nest_graph.Ready.{IsElement}
use Rattle.dependence_graph.proofs.nest_ready.RankLaws.{list_all, list_more}
use Rattle.dependence_graph.proofs.nest_ready.references.all_elements.Goals as goal

pub loop-item-preserved : goal.loop-item-preserved
loop-item-preserved c =
    let t : IsTrue c.is_element.result = first_of (cc, search rules) in
    list_more (λ (r : Ref). IsElement (reference_of r)) c.args.items.now c.loop-item.item-index c.item-item.result (omega arith) c.item-item.is
    c.loop-item.invariant (c.is_element.ensures.0 t)

pub returns : goal.returns
returns c = (λ t. list_all (λ (r : Ref). IsElement (reference_of r)) c.args.items.now c.loop-item.item-index (omega arith) c.loop-item.invariant, λ _. refl)
