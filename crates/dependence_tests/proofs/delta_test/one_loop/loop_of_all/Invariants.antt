use Rattle.std.proofs.Common.{take}
use Rattle.dependence_tests.specs.loop_lines.Places.{loop_at}
use Rattle.dependence_tests.specs.delta_test.Groups.{HasOneLoopOfAll}
use Rattle.dependence_tests.proofs.delta_test.one_loop.loop_of_all.Given as goal

abbrev pub invariant-loop-p : goal.invariant-loop-p
invariant-loop-p l = HasOneLoopOfAll (take l.p-index l.ps) (loop_at l.at)
