use Rattle.std.proofs.Common.{length}
use Rattle.scalar_expand.proofs.values_behind.+add_tests.Given as goal

abbrev pub decreases-add_tests : goal.decreases-add_tests
decreases-add_tests l = length l.loops.now
