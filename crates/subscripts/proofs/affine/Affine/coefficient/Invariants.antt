use Rattle.std.proofs.Common.{◌≡◌, take}
use Rattle.subscripts.specs.Forms.{coefficient}
use Rattle.subscripts.proofs.affine.Affine.coefficient.Given as goal

abbrev pub invariant-loop-place : goal.invariant-loop-place
invariant-loop-place l = l.sum ≡ coefficient (take l.place-index l.place-items) l.symbol
