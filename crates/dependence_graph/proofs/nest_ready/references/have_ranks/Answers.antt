use Rattle.std.proofs.Common.{refl, arith, rules}
use Rattle.std.specs.Prelude.{All, IsTrue}
use Rattle.tree.specs.View.{reference_of}
use Rattle.tree.specs.declared.exprs.Ref.{Ref}
use Rattle.dependence_graph.specs.nest_ready.Gathered.{HaveSameRank}
use Rattle.dependence_graph.proofs.nest_ready.RankLaws.{list_all, list_more}
use Rattle.dependence_graph.proofs.nest_ready.references.have_ranks.Goals as goal

pub loop-item-preserved : goal.loop-item-preserved
loop-item-preserved c =
    let t : IsTrue c.have_rank_of.result = first_of (cc, search rules) in
    list_more (λ (q : Ref). All (λ (r : Ref). HaveSameRank (reference_of q) (reference_of r)) c.args.items.now) c.args.items.now c.loop-item.item-index c.item-item.result
    (omega arith) c.item-item.is c.loop-item.invariant (c.have_rank_of.ensures.0 t)

pub returns : goal.returns
returns c = (
  λ t.
      list_all (λ (q : Ref). All (λ (r : Ref). HaveSameRank (reference_of q) (reference_of r)) c.args.items.now) c.args.items.now c.loop-item.item-index (omega arith) c.loop-item.invariant,
  λ _. refl,
)
