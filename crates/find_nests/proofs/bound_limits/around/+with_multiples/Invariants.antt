use Rattle.std.proofs.Common.{length}
use Rattle.find_nests.proofs.bound_limits.around.+with_multiples.Given as goal

abbrev pub decreases-with_multiples : goal.decreases-with_multiples
decreases-with_multiples l = length l.around.now
