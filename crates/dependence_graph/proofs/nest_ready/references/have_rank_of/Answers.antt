use Rattle.std.proofs.Common.{refl, arith, rules}
use Rattle.std.specs.Prelude.{IsTrue}
use Rattle.tree.specs.View.{reference_of}
use Rattle.tree.specs.declared.exprs.Ref.{Ref}
use Rattle.dependence_graph.specs.nest_ready.Gathered.{HaveSameRank}
use Rattle.dependence_graph.proofs.nest_ready.RankLaws.{list_all, list_more}
use Rattle.dependence_graph.proofs.nest_ready.references.have_rank_of.Goals as goal

pub loop-other-preserved : goal.loop-other-preserved
loop-other-preserved c =
    let t : IsTrue c.has_rank_of.result = first_of (cc, search rules) in
    list_more (λ (r : Ref). HaveSameRank (reference_of c.args.one.now) (reference_of r)) c.args.others.now c.loop-other.other-index c.other-item.result (omega arith) c.other-item.is
    c.loop-other.invariant (c.has_rank_of.ensures.0 t)

pub returns : goal.returns
returns c = (λ t. list_all (λ (r : Ref). HaveSameRank (reference_of c.args.one.now) (reference_of r)) c.args.others.now c.loop-other.other-index (omega arith) c.loop-other.invariant, λ _. refl)
