use Rattle.std.proofs.Common.{length}
use Rattle.dependence_graph.proofs.nest_ready.numbers.+is_other.Given as goal

abbrev pub decreases-is_other : goal.decreases-is_other
decreases-is_other l = length l.others.now
