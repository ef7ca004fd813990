-- What `?` gives where it leaves a function with the same error.
use Rattle.std.proofs.Common.{◌≡◌, ap, ℤ, SFits, to_z, of_z, Result, Ok, Err}
use Rattle.std.specs.Int.{w128}
use Rattle.std.proofs.lemmas.Int.{to_z-of_z}
use Rattle.std.specs.Result.{IsErrAnd}

pub residual : {A E : Type 0} {r : Result A E} {e : E} → IsErrAnd r (λ x. x ≡ e) → r ≡ Err e
residual {r = Ok x} h = absurd h
residual {r = Err x} h = ap (λ y. let q = Err y in q) h

-- a number of 128 bits, written and read back
pub settled : (z : ℤ) → SFits w128 z → to_z w128 (of_z w128 z) ≡ z
settled z h = to_z-of_z w128 z h
