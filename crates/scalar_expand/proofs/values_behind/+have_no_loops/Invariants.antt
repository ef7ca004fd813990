use Rattle.std.proofs.Common.{length}
use Rattle.scalar_expand.proofs.values_behind.+have_no_loops.Given as goal

abbrev pub decreases-have_no_loops : goal.decreases-have_no_loops
decreases-have_no_loops l = length l.loops.now
