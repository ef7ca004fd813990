use Rattle.std.proofs.Common.{length, ℕ}
use Rattle.answers.proofs.levels.+are_below.Given as goal

-- it goes on with the pairs behind the first one
abbrev pub decreases-are_below : goal.decreases-are_below
decreases-are_below l = length l.pairs.now
