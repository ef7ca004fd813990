use Rattle.dependence_tests.specs.delta_test.Learned.{IsLearnedBySolutions}
use Rattle.dependence_tests.proofs.delta_test.learn.learned_of_all.Given as goal

abbrev pub invariant-loop : goal.invariant-loop
invariant-loop l = IsLearnedBySolutions l.ps l.learned
