use Rattle.dependence_tests.specs.delta_test.Learned.{IsLearnedOfAll}
use Rattle.dependence_tests.proofs.delta_test.learn.learned_once.Given as goal

abbrev pub invariant-loop-p : goal.invariant-loop-p
invariant-loop-p l = IsLearnedOfAll l.fn.constraints l.ps l.learned
