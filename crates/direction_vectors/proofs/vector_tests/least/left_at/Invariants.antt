use Rattle.std.proofs.Common.{◌↔◌, take}
use Rattle.std.specs.Prelude.{ℤ}
use Rattle.dependence_tests.specs.delta_test.Constraints.{Allows, IsConstraint}
use Rattle.dependence_tests.specs.loop_lines.Places.{loop_at}
use Rattle.direction_vectors.specs.vector_tests.Places.{SolvesEach}
use Rattle.direction_vectors.proofs.vector_tests.least.left_at.Given as goal

abbrev pub invariant-loop-p : goal.invariant-loop-p
invariant-loop-p l = record {
  constraint : IsConstraint l.left;
  same : (i j : ℤ) → Allows l.left i j ↔ SolvesEach (take l.p-index l.ps) (loop_at l.at) i j;
}
