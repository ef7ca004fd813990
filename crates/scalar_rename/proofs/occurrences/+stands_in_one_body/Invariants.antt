use Rattle.std.proofs.Common.{length}
use Rattle.scalar_rename.proofs.occurrences.+stands_in_one_body.Given as goal

abbrev pub decreases-stands_in_one_body : goal.decreases-stands_in_one_body
decreases-stands_in_one_body l = length l.standings.now
