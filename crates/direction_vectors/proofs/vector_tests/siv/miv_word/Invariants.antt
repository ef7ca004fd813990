use Rattle.std.proofs.Common.{ℕ, ◌<◌}
use Rattle.direction_vectors.specs.vector_tests.Places.{IsMivLeft}
use Rattle.direction_vectors.proofs.vector_tests.siv.miv_word.Given as goal

abbrev pub invariant-loop-place : goal.invariant-loop-place
invariant-loop-place l = (k : ℕ) → k < l.place → IsMivLeft l.ps l.d k
