use Rattle.emission.proofs.GraphOrders.Complete.{graph_has_edges}
use Rattle.emission.proofs.graph_orders.graph_has_edges.Goals as goal

pub returns : goal.returns
returns c = graph_has_edges
