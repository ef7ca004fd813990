use Rattle.direction_vectors.specs.vector_tests.Words.{IfKept}
use Rattle.direction_vectors.specs.Boxes.{HasRoom, InSkipped, IsFree}
use Rattle.direction_vectors.proofs.splitting.next_place.Given as goal

abbrev pub invariant-loop-place : goal.invariant-loop-place
invariant-loop-place l = record {
  rooms : InSkipped l.from l.place (HasRoom l.refs);
  free : InSkipped l.from l.place (λ m. IfKept l.verdict (λ w. IsFree l.refs m));
}
