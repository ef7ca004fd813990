use Rattle.std.proofs.Common.{take}
use Rattle.dependence_tests.specs.delta_test.Groups.{AreNotRefuted}
use Rattle.dependence_tests.proofs.delta_test.group.one_is_refuted.Given as goal

abbrev pub invariant-loop-p : goal.invariant-loop-p
invariant-loop-p l = AreNotRefuted (take l.p-index l.ps) l.d
