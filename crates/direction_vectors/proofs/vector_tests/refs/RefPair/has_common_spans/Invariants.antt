use Rattle.std.proofs.Common.{◌≡◌, ℕ, ◌<◌, get_or}
use Rattle.subscripts.specs.Iterations.{once}
use Rattle.direction_vectors.proofs.vector_tests.refs.RefPair.has_common_spans.Given as goal

abbrev pub invariant-loop-place : goal.invariant-loop-place
invariant-loop-place l = (k : ℕ) → k < l.place → get_or l.self.from_spans k once ≡ get_or l.self.to_spans k once
