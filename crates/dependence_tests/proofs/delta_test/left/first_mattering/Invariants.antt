use Rattle.std.proofs.Common.{ℕ, ◌<◌}
use Rattle.dependence_tests.specs.loop_lines.OneLoop.{HasNoneAt}
use Rattle.dependence_tests.proofs.delta_test.left.first_mattering.Given as goal

abbrev pub invariant-loop-place : goal.invariant-loop-place
invariant-loop-place l = (k : ℕ) → k < l.place → HasNoneAt l.p k
