use Rattle.std.proofs.Common.{length}
use Rattle.index_split.proofs.pieces.+all_assignments.Given as goal

abbrev pub decreases-all_assignments : goal.decreases-all_assignments
decreases-all_assignments l = length l.stmts.now
