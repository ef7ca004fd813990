use Rattle.std.proofs.Common.{◌≡◌, ℕ, ◌<◌, length, get_or}
use Rattle.std.specs.Prelude.{pos}
use Rattle.direction_vectors.specs.vector_tests.Places.{IsLeastAllowed}
use Rattle.direction_vectors.proofs.vector_tests.refs.RefPair.least_meeting.Given as goal

abbrev pub invariant-loop-place : goal.invariant-loop-place
invariant-loop-place l = record {
  least : (k : ℕ) → k < l.place → IsLeastAllowed l.self l.d k (get_or l.first.at k (pos 0)) (get_or l.second.at k (pos 0));
  first : length l.first.at ≡ 7;
  second : length l.second.at ≡ 7;
}
