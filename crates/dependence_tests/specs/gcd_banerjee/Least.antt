-- The least of some integers, which are those of which S holds.
use Rattle.std.specs.Prelude.{◌≡◌, ℕ, ℤ, pos, Option, IfSome, ◌+◌, ◌≤◌, ◌+ℤ◌, ◌*ℤ◌, ◌≤ℤ◌, unsigned_abs}
use Rattle.dependence_tests.specs.declared.gcd_banerjee.least.Least.{Least}
use Rattle.dependence_tests.specs.declared.gcd_banerjee.least.Least.TheVariants.{Nothing, Unbounded, At}

abbrev pub IsLeastOf : (ℤ → Type 0) → Least → Type 0
IsLeastOf S Nothing = (z : ℤ) → S z → ⊥
IsLeastOf S Unbounded = (m : ℤ) → (z : ℤ) × (S z × (z ≤ℤ m))
IsLeastOf S (At m) = S m × ((z : ℤ) → S z → m ≤ℤ z)

-- at most n in size
abbrev pub IsWithin : ℕ → Least → Type 0
IsWithin n Nothing = Unit {0}
IsWithin n Unbounded = Unit {0}
IsWithin n (At m) = unsigned_abs m ≤ n

-- the least sum, by the least of each side
abbrev pub plus_least : Least → Least → Least
plus_least Nothing l = Nothing
plus_least Unbounded Nothing = Nothing
plus_least Unbounded Unbounded = Unbounded
plus_least Unbounded (At n) = Unbounded
plus_least (At m) Nothing = Nothing
plus_least (At m) Unbounded = Unbounded
plus_least (At m) (At n) = At (m +ℤ n)

-- a sum of one number each
pub record IsSumOf (S T : ℤ → Type 0) (z : ℤ) : Type 0 where
  pub first : ℤ
  pub second : ℤ
  pub in_first : S first
  pub in_second : T second
  pub sum : z ≡ first +ℤ second

-- a value of a linear form over the triangle of all u and w whose sum is no more than fits
pub record IsTriangleValue (base : ℤ) (room : Option ℤ) (c d z : ℤ) : Type 0 where
  pub u : ℕ
  pub w : ℕ
  pub fits : IfSome room (λ n. pos (u + w) ≤ℤ n)
  pub value : z ≡ base +ℤ (c *ℤ pos u +ℤ d *ℤ pos w)
