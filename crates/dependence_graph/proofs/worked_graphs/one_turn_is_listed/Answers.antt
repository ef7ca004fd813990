use Rattle.dependence_graph.proofs.worked_graphs.Worked.{one_turn_listed}
use Rattle.dependence_graph.proofs.worked_graphs.one_turn_is_listed.Goals as goal

pub returns : goal.returns
returns c = one_turn_listed
