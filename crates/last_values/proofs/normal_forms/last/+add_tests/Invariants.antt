use Rattle.std.proofs.Common.{length}
use Rattle.last_values.proofs.normal_forms.last.+add_tests.Given as goal

abbrev pub decreases-add_tests : goal.decreases-add_tests
decreases-add_tests l = length l.round.now
