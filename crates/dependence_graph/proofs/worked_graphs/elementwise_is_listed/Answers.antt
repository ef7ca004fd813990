use Rattle.dependence_graph.proofs.worked_graphs.Worked.{elementwise_listed}
use Rattle.dependence_graph.proofs.worked_graphs.elementwise_is_listed.Goals as goal

pub returns : goal.returns
returns c = elementwise_listed
