use Rattle.dependence_graph.proofs.worked_graphs.Worked.{recurrence_listed}
use Rattle.dependence_graph.proofs.worked_graphs.recurrence_is_listed.Goals as goal

pub returns : goal.returns
returns c = recurrence_listed
