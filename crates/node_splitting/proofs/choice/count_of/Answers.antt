use Rattle.std.proofs.Common.{subst, arith, take_all}
use Rattle.components.specs.Reachability.{AreBelow}
use Rattle.node_splitting.specs.Choice.{pairs_of}
use Rattle.node_splitting.proofs.Choices.{below_step}
use Rattle.node_splitting.proofs.choice.count_of.Goals as goal

pub loop-edge-preserved : goal.loop-edge-preserved
loop-edge-preserved c =
    below_step c.args.edges.now c.loop-edge.edge-index c.edge-item.result c.loop-edge.bound c.above-bound.result (omega arith) c.edge-item.is c.loop-edge.invariant
    c.above-bound.ensures.bound c.above-bound.ensures.from c.above-bound.ensures.to

pub returns : goal.returns
returns c = subst (λ es. AreBelow c.loop-edge.bound (pairs_of es)) (take_all c.loop-edge.edge-index c.args.edges.now (omega arith)) c.loop-edge.invariant
