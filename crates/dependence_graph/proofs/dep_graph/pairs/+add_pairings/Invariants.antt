use Rattle.std.proofs.Common.{length}
use Rattle.dependence_graph.proofs.dep_graph.pairs.+add_pairings.Given as goal

abbrev pub decreases-add_pairings : goal.decreases-add_pairings
decreases-add_pairings l = length l.from.now
