use Rattle.std.proofs.Common.{length}
use Rattle.scalar_rename.proofs.occurrences.+all_stand_in.Given as goal

abbrev pub decreases-all_stand_in : goal.decreases-all_stand_in
decreases-all_stand_in l = length l.standings.now
