use Rattle.std.proofs.Common.{◌≡◌, take, All}
use Rattle.subscripts.specs.Forms.{coefficient}
use Rattle.subscripts.proofs.pairing.Pairing.agrees_on.Given as goal

abbrev pub invariant-loop-symbol : goal.invariant-loop-symbol
invariant-loop-symbol l = All (λ t. coefficient l.self.from.syms t.0 ≡ coefficient l.self.to.syms t.0) (take l.symbol-index l.symbols)
