use Rattle.std.proofs.Common.{take}
use Rattle.std.specs.Prelude.{All}
use Rattle.subscripts.specs.Shapes.{AreDirsOf, IsPairing}
use Rattle.answers.proofs.pairs.are_valid.Given as goal

abbrev pub invariant-loop-p : goal.invariant-loop-p
invariant-loop-p l = record {
  pairings : All IsPairing (take l.p-index l.ps);
  dirs : All (λ p. AreDirsOf p l.d) (take l.p-index l.ps);
}
