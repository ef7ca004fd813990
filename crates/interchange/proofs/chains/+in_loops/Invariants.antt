use Rattle.std.proofs.Common.{length}
use Rattle.interchange.proofs.chains.+in_loops.Given as goal

abbrev pub decreases-in_loops : goal.decreases-in_loops
decreases-in_loops l = length l.loops.now
