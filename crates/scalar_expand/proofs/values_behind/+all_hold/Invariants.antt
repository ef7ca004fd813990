use Rattle.std.proofs.Common.{length}
use Rattle.scalar_expand.proofs.values_behind.+all_hold.Given as goal

abbrev pub decreases-all_hold : goal.decreases-all_hold
decreases-all_hold l = length l.rest.now
