use Rattle.std.proofs.Common.{◌↔◌, take}
use Rattle.std.specs.Prelude.{ℤ, All}
use Rattle.dependence_tests.specs.loop_lines.OneLoop.{HasSevenLists}
use Rattle.dependence_tests.specs.loop_lines.Places.{loop_at}
use Rattle.dependence_tests.specs.delta_test.Constraints.{IsConstraint, Allows}
use Rattle.dependence_tests.specs.delta_test.Groups.{OnAllLines}
use Rattle.dependence_tests.proofs.delta_test.one_loop.shared_by_all.Given as goal

abbrev pub invariant-loop-p : goal.invariant-loop-p
invariant-loop-p l = record {
  constraint : IsConstraint l.shared;
  same : (i j : ℤ) → Allows l.shared i j ↔ OnAllLines (loop_at l.at) (take l.p-index l.ps) i j;
  places : All HasSevenLists (take l.p-index l.ps);
}
