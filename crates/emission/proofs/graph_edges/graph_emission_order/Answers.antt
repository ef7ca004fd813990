use Rattle.emission.proofs.GraphEdges.Leading.{graph_emission}
use Rattle.emission.proofs.graph_edges.graph_emission_order.Goals as goal

pub returns : goal.returns
returns c = graph_emission
