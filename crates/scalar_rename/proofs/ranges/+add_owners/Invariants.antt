use Rattle.std.proofs.Common.{length}
use Rattle.scalar_rename.proofs.ranges.+add_owners.Given as goal

abbrev pub decreases-add_owners : goal.decreases-add_owners
decreases-add_owners l = length l.standings.now
