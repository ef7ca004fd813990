use Rattle.std.proofs.Common.{take}
use Rattle.std.specs.Prelude.{All}
use Rattle.direction_vectors.specs.vector_tests.Refs.{IsSubscriptOf}
use Rattle.direction_vectors.proofs.vector_tests.refs.RefPair.has_subscripts.Given as goal

abbrev pub invariant-loop-p : goal.invariant-loop-p
invariant-loop-p l = All (IsSubscriptOf l.self) (take l.p-index l.self.subs)
