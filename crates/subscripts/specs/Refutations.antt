-- Three ways to show that a pairing has no pair of iterations.
use Rattle.std.specs.Prelude.{ℕ, ℤ, pos, List, ◌-ℤ◌, ◌<ℤ◌, ◌⊎◌, IsTrue, All, unsigned_abs}
use Prim.Native.Nat.{◌∣◌}
use Rattle.subscripts.specs.Classes.{Loop, HasOneLoop, span_of}
use Rattle.subscripts.specs.Cuts.{cut, cut_dirs}
use Rattle.subscripts.specs.Forms.{HasNoPair, IsInRegion, coefficient, difference}
use Rattle.subscripts.specs.declared.affine.Dirs.{Dirs}
use Rattle.subscripts.specs.declared.pairing.Pairing.{Pairing}

-- d divides the coefficients of all loops, and the difference of each symbol's two coefficients
pub record DividesAll (d : ℕ) (p : Pairing) : Type 0 where
  pub first : All (λ a. d ∣ unsigned_abs a) p.from.loops
  pub second : All (λ b. d ∣ unsigned_abs b) p.to.loops
  pub symbols : (s : ℕ) → d ∣ unsigned_abs (coefficient p.from.syms s -ℤ coefficient p.to.syms s)

pub record HasGcd (p : Pairing) (g : ℕ) : Type 0 where
  pub divides : DividesAll g p
  pub greatest : (d : ℕ) → DividesAll d p → d ∣ g

-- the first way, the GCD test: the greatest common divisor doesn't divide the difference of the constants. It is 0
-- where all the numbers are 0, and 0 divides 0 alone.
abbrev pub IsRefutedByGcd : Pairing → Type 0
IsRefutedByGcd p = (g : ℕ) × (HasGcd p g × (g ∣ unsigned_abs (p.to.constant -ℤ p.from.constant) → ⊥))

-- the second way, Banerjee's: the first side is above the second all over the region, or below it. A region's corners
-- are whole, so that the extremes over its corners are those over the region; a region that is open towards one side
-- has no extreme there, and an empty region is one-sided.
abbrev pub IsOneSided : Pairing → Dirs → Type 0
IsOneSided p d =
    ((v : ℕ → ℤ) (x y : List ℤ) → IsInRegion p d x y → pos 0 <ℤ difference p v x y)
    ⊎ ((v : ℕ → ℤ) (x y : List ℤ) → IsInRegion p d x y → difference p v x y <ℤ pos 0)

-- one loop, whose trip is a constant
abbrev pub IsExact : Pairing → Type 0
IsExact p = (l : Loop) × (HasOneLoop p l × IsTrue (span_of p l).fixed)

-- the third way: one loop, whose trip is a constant, has no pair of iterations
abbrev pub IsRefutedByLoop : Pairing → Dirs → Type 0
IsRefutedByLoop p d = IsExact p × HasNoPair (cut p) (cut_dirs p d)
