use Rattle.std.proofs.Common.{length}
use Rattle.scalar_rename.proofs.occurrences.+are_same_loops.Given as goal

abbrev pub decreases-are_same_loops : goal.decreases-are_same_loops
decreases-are_same_loops l = length l.first.now
