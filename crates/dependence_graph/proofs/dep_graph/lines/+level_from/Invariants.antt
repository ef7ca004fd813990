use Rattle.std.proofs.Common.{length}
use Rattle.dependence_graph.proofs.dep_graph.lines.+level_from.Given as goal

abbrev pub decreases-level_from : goal.decreases-level_from
decreases-level_from l = length l.dirs.now
