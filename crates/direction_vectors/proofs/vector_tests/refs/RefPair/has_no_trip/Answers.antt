use Rattle.std.proofs.Common.{arith}
use Rattle.direction_vectors.proofs.vector_tests.refs.RefPair.has_no_trip.Goals as goal

pub returns-clause-complete : goal.returns-clause-complete
returns-clause-complete c = λ e h. c.loop-place.invariant h.0 (let b = h.1.0 in omega arith) h.1.1
