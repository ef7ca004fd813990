use Rattle.std.proofs.Common.{◌≡◌, ℕ, ◌<◌, get_or, length}
use Rattle.subscripts.specs.Iterations.{once}
use Rattle.direction_vectors.proofs.vector_tests.shapes.are_padded.Given as goal

abbrev pub invariant-loop-place : goal.invariant-loop-place
invariant-loop-place l = (k : ℕ) → k < l.place → get_or l.spans k once ≡ get_or l.loops k once
