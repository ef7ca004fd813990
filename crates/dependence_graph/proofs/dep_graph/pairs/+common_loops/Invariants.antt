use Rattle.std.proofs.Common.{length}
use Rattle.dependence_graph.proofs.dep_graph.pairs.+common_loops.Given as goal

abbrev pub decreases-common_loops : goal.decreases-common_loops
decreases-common_loops l = length l.from.now
