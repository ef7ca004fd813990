use Rattle.dependence_graph.proofs.worked_graphs.Squares.{beside_square_listed}
use Rattle.dependence_graph.proofs.worked_graphs.beside_square_is_listed.Goals as goal

pub returns : goal.returns
returns c = beside_square_listed
