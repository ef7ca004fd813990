use Rattle.std.proofs.Common.{length}
use Rattle.normal_loops.proofs.values.+test_with_values.Given as goal

abbrev pub decreases-test_with_values : goal.decreases-test_with_values
decreases-test_with_values l = length l.inner.now
