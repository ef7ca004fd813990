use Rattle.std.proofs.Common.{length}
use Rattle.normal_loops.proofs.values.+stmt_with_values.Given as goal

abbrev pub decreases-stmt_with_values : goal.decreases-stmt_with_values
decreases-stmt_with_values l = length l.inner.now
