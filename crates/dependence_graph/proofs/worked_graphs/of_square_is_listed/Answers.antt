use Rattle.dependence_graph.proofs.worked_graphs.Squares.{of_square_listed}
use Rattle.dependence_graph.proofs.worked_graphs.of_square_is_listed.Goals as goal

pub returns : goal.returns
returns c = of_square_listed
