use Rattle.std.proofs.Common.{◌≡◌, take}
use Rattle.std.specs.Prelude.{All}
use Rattle.subscripts.specs.Classes.{IsZiv}
use Rattle.direction_vectors.proofs.vector_tests.siv.has_unequal_constants.Given as goal

abbrev pub invariant-loop-p : goal.invariant-loop-p
invariant-loop-p l = All (λ p. IsZiv p → p.from.constant ≡ p.to.constant) (take l.p-index l.ps)
