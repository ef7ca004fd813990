use Rattle.std.proofs.Common.{◌≡◌, ℕ, ◌<◌}
use Rattle.subscripts.specs.Partitions.{AreCoupled}
use Rattle.direction_vectors.proofs.vector_tests.words.is_separable.Given as goal

abbrev pub invariant-loop-other : goal.invariant-loop-other
invariant-loop-other l = (j : ℕ) → j < l.other → AreCoupled l.ps l.place j → j ≡ l.place
