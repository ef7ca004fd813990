use Rattle.std.proofs.Common.{ℕ, ◌<◌}
use Rattle.subscripts.specs.Partitions.{SharesAt}
use Rattle.subscripts.proofs.pairing.Pairing.shares_loop.Given as goal

abbrev pub invariant-loop-place : goal.invariant-loop-place
invariant-loop-place l = (k : ℕ) → k < l.place → SharesAt l.self l.other k → ⊥
