use Rattle.std.proofs.Common.{take}
use Rattle.std.specs.Prelude.{All, IsTrue}
use Rattle.dependence_tests.specs.loop_lines.OneLoop.{HasNoneAt}
use Rattle.direction_vectors.proofs.splitting.is_named.Given as goal

abbrev pub invariant-loop-p : goal.invariant-loop-p
invariant-loop-p l = All (λ p. IsTrue p.known → HasNoneAt p l.place) (take l.p-index l.ps)
