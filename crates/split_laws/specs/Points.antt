-- The points at which a loop is cut (Allen and Kennedy, "Optimizing Compilers for Modern Architectures", sections 5.8
-- and 5.9): before and behind the iteration that a weak-zero dependence comes from or leads to, and where a crossing
-- dependence crosses.
use Rattle.std.specs.Prelude.{◌≡◌, ◌≢◌, ◌≤◌, ◌<◌, ℕ, suc, ◌/◌, ℤ, pos, ◌+ℤ◌, ◌-ℤ◌, ◌*ℤ◌, List}
use Rattle.components.specs.Lists.{IsMember}

-- a linear subscript, by its coefficient and what is added
pub record Side : Type 0 where
  pub by : ℤ
  pub more : ℤ

abbrev pub at : Side → ℕ → ℤ
at f i = pos i *ℤ f.by +ℤ f.more

-- a piece of the iterations from `from` to `to`, of 1 to t, in which the loop isn't cut behind a point
pub record IsPiece (points : List ℕ) (t from to : ℕ) : Type 0 where
  pub first : 1 ≤ from
  pub last : to ≤ t
  pub uncut : (p : ℕ) → IsMember p points → from ≤ p → ¬ (p < to)

-- the point is among them if it is from 1 to t - 1
abbrev pub HasPoint : List ℕ → ℕ → ℕ → Type 0
HasPoint points t p = 1 ≤ p → p < t → IsMember p points

-- no two different iterations of the piece make the sides equal
abbrev pub AreApart : Side → Side → ℕ → ℕ → Type 0
AreApart f g from to = (i j : ℕ) → from ≤ i → i ≤ to → from ≤ j → j ≤ to → ¬ (i ≡ j) → ¬ (at f i ≡ at g j)

-- the side with the loop meets the other one at i0
abbrev pub ZeroPointsPart : Type 0
ZeroPointsPart = (f g : Side) (points : List ℕ) (t i0 from to : ℕ) → f.by ≢ pos 0 → g.by ≡ pos 0 → at f i0 ≡ g.more
    → HasPoint points t i0 → ((p : ℕ) → suc p ≡ i0 → HasPoint points t p)
    → IsPiece points t from to → AreApart f g from to × AreApart g f from to

-- the sides meet where both iterations have the sum s
abbrev pub CrossingPointParts : Type 0
CrossingPointParts = (f g : Side) (points : List ℕ) (t s from to : ℕ) → f.by ≢ pos 0 → f.by +ℤ g.by ≡ pos 0
    → pos s *ℤ f.by ≡ g.more -ℤ f.more → HasPoint points t (s / 2)
    → IsPiece points t from to → AreApart f g from to
