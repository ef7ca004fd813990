use Rattle.dependence_graph.proofs.worked_graphs.Merging.{drops_merge}
use Rattle.dependence_graph.proofs.worked_graphs.drops_merge.Goals as goal

pub returns : goal.returns
returns c = drops_merge
