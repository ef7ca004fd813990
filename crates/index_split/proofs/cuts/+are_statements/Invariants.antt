use Rattle.std.proofs.Common.{length}
use Rattle.index_split.proofs.cuts.+are_statements.Given as goal

abbrev pub decreases-are_statements : goal.decreases-are_statements
decreases-are_statements l = length l.list.now
