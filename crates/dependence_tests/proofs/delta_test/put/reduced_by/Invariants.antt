use Rattle.dependence_tests.proofs.delta_test.Putting.{IsPutUpTo}
use Rattle.dependence_tests.proofs.delta_test.put.reduced_by.Given as goal

abbrev pub invariant-loop-place : goal.invariant-loop-place
invariant-loop-place l = IsPutUpTo l.constraints l.p l.reduced l.place
