use Rattle.std.proofs.Common.{ℕ, ◌<◌}
use Rattle.direction_vectors.specs.vector_tests.Ways.{LacksTripAt}
use Rattle.direction_vectors.proofs.vector_tests.refs.RefPair.has_no_trip.Given as goal

abbrev pub invariant-loop-place : goal.invariant-loop-place
invariant-loop-place l = (k : ℕ) → k < l.place → LacksTripAt l.self l.d k → ⊥
