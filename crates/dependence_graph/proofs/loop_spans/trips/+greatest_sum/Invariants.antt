use Rattle.std.proofs.Common.{length}
use Rattle.dependence_graph.proofs.loop_spans.trips.+greatest_sum.Given as goal

abbrev pub decreases-greatest_sum : goal.decreases-greatest_sum
decreases-greatest_sum l = length l.times.now
