use Rattle.emission.proofs.GraphEdges.Leading.{edges_lead}
use Rattle.emission.proofs.graph_edges.edges_lead_in_nest.Goals as goal

pub returns : goal.returns
returns c = edges_lead
