use Rattle.std.proofs.Common.{length}
use Rattle.dependence_graph.proofs.nest_ready.trips.+have_trips.Given as goal

abbrev pub decreases-have_trips : goal.decreases-have_trips
decreases-have_trips l = length l.loops.now
