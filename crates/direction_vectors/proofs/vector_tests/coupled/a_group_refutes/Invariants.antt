use Rattle.std.proofs.Common.{◌≡◌, ℕ, ◌<◌}
use Rattle.std.specs.Prelude.{slice_index}
use Rattle.direction_vectors.specs.vector_tests.Places.{IsGroupLeft}
use Rattle.direction_vectors.specs.vector_tests.Words.{IsSeparable}
use Rattle.direction_vectors.proofs.vector_tests.coupled.a_group_refutes.Given as goal

abbrev pub invariant-loop-place : goal.invariant-loop-place
invariant-loop-place l =
    (k : ℕ) → k < l.place → slice_index l.groups.of k ≡ k → (IsSeparable l.ps k → ⊥) → IsGroupLeft l.ps l.d k
