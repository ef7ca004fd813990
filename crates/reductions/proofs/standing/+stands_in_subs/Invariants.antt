use Rattle.std.proofs.Common.{length}
use Rattle.reductions.proofs.standing.+stands_in_subs.Given as goal

abbrev pub decreases-stands_in_subs : goal.decreases-stands_in_subs
decreases-stands_in_subs l = length l.subs.now
