use Rattle.dependence_graph.proofs.nest_graph.Completing.{complete}
use Rattle.dependence_graph.proofs.nest_graph.graph_is_complete.Goals as goal

pub returns : goal.returns
returns c = λ n g h. complete n g h
