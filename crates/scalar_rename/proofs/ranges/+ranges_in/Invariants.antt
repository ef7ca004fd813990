use Rattle.std.proofs.Common.{length}
use Rattle.scalar_rename.proofs.ranges.+ranges_in.Given as goal

abbrev pub decreases-ranges_in : goal.decreases-ranges_in
decreases-ranges_in l = length l.standings.now
