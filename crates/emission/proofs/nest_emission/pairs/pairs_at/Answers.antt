use Rattle.std.proofs.Common.{List, subst, arith}
use Rattle.std.proofs.lemmas.List.{take_all}
use Rattle.dependence_graph.specs.declared.graphs.Edge.{Edge}
use Rattle.emission.specs.emission_pieces.Levels.{ArePairsAt}
use Rattle.emission.proofs.nest_emission.PairLaws.{pairs_more}
use Rattle.emission.proofs.nest_emission.pairs.pairs_at.Goals as goal

pub loop-edge-preserved : goal.loop-edge-preserved
loop-edge-preserved c =
    pairs_more c.args.edges.now c.loop-edge.edge-index c.edge-item.result c.args.level c.args.part.now c.loop-edge.pairs.items c.add_pair.new.pairs.items
    (omega arith) c.edge-item.is c.loop-edge.invariant c.in_ok-add_pair.ensures

pub returns : goal.returns
returns c =
    subst (λ (es : List Edge). ArePairsAt es c.args.level c.args.part.now c.loop-edge.pairs.items) (take_all c.loop-edge.edge-index c.args.edges.now (omega arith)) c.loop-edge.invariant
