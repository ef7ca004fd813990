use Rattle.std.proofs.Common.{take}
use Rattle.std.specs.Prelude.{All}
use Rattle.direction_vectors.specs.vector_tests.Ways.{IsZivOrSiv}
use Rattle.direction_vectors.proofs.vector_tests.vector.are_ziv_or_siv.Given as goal

abbrev pub invariant-loop-p : goal.invariant-loop-p
invariant-loop-p l = All IsZivOrSiv (take l.p-index l.ps)
