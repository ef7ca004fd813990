use Rattle.std.proofs.Common.{◌∙◌, ap, arith, take_all}
use Rattle.dependence_graph.specs.declared.graphs.Edge.{Edge}
use Rattle.node_splitting.specs.Choice.{overwritten_in, overwrites}
use Rattle.node_splitting.proofs.Choices.{places_step}
use Rattle.node_splitting.proofs.choice.overwritten_in.Goals as goal

pub loop-edge-preserved : goal.loop-edge-preserved
loop-edge-preserved c =
    places_step (overwrites c.args.classes.now) (λ (e : Edge). e.from) c.args.edges.now c.loop-edge.edge-index c.edge-item.result c.loop-edge.places c.add_overwritten.new.places
    (omega arith) c.edge-item.is c.loop-edge.invariant c.in_ok-add_overwritten.ensures

pub returns : goal.returns
returns c = c.loop-edge.invariant ∙ ap (overwritten_in c.args.classes.now) (take_all c.loop-edge.edge-index c.args.edges.now (omega arith))
