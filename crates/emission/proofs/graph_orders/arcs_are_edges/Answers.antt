use Rattle.emission.proofs.GraphOrders.Edges.{arcs_are_edges}
use Rattle.emission.proofs.graph_orders.arcs_are_edges.Goals as goal

pub returns : goal.returns
returns c = arcs_are_edges
