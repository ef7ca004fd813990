use Rattle.dependence_graph.proofs.worked_graphs.Worked.{first_element_listed}
use Rattle.dependence_graph.proofs.worked_graphs.first_element_is_listed.Goals as goal

pub returns : goal.returns
returns c = first_element_listed
