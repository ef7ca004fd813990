use Rattle.dependence_graph.proofs.worked_graphs.Worked.{crossing_listed}
use Rattle.dependence_graph.proofs.worked_graphs.crossing_is_listed.Goals as goal

pub returns : goal.returns
returns c = crossing_listed
