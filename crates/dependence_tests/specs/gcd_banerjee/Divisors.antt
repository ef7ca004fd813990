-- The greatest common divisor of many numbers.
use Rattle.std.specs.Prelude.{ℕ, ℤ, List, ◌-ℤ◌, All, unsigned_abs}
use Prim.Native.Nat.{◌∣◌}
use Rattle.subscripts.specs.Forms.{coefficient}
use Rattle.subscripts.specs.Refutations.{HasGcd}
use Rattle.subscripts.specs.declared.pairing.Pairing.{Pairing}

-- d divides each of the numbers
abbrev pub DividesEach : ℕ → List ℤ → Type 0
DividesEach d xs = All (λ x. d ∣ unsigned_abs x) xs

-- g is the greatest common divisor of a number and the numbers of a list
pub record IsGcdFrom (start : ℕ) (xs : List ℤ) (g : ℕ) : Type 0 where
  pub start_too : g ∣ start
  pub each : DividesEach g xs
  pub greatest : (d : ℕ) → d ∣ start → DividesEach d xs → d ∣ g

-- how much more of a symbol, which stands in a list of symbols, the first side has than the second
abbrev pub difference_of : Pairing → (ℕ × ℤ) → ℤ
difference_of p t = coefficient p.from.syms t.0 -ℤ coefficient p.to.syms t.0

-- the greatest common divisor doesn't divide this difference of the constants
abbrev pub IsRefutedByGcdWith : Pairing → ℤ → Type 0
IsRefutedByGcdWith p constant = (g : ℕ) × (HasGcd p g × (g ∣ unsigned_abs constant → ⊥))
