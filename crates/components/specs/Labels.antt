-- Numbers of classes.
use Rattle.std.specs.Prelude.{◌≡◌, ◌<◌, ◌≤◌, ℕ, List, length, slice_index_or}
use Rattle.components.specs.Lists.{IsMember}
use Rattle.components.specs.Reachability.{Reaches}

abbrev pub at : List ℕ → ℕ → ℕ
at xs i = slice_index_or xs i 0

-- For each number below n that of its class: pairs never lead to a greater one, and those of one class reach one
-- another.
pub record AreLabels (n : ℕ) (pairs : List (ℕ × ℕ)) (count : ℕ) (labels : List ℕ) : Type 0 where
  pub size : length labels ≡ n
  pub below : (a : ℕ) → a < n → at labels a < count
  pub met : (c : ℕ) → c < count → (a : ℕ) × (a < n) × (at labels a ≡ c)
  pub falling : (a b : ℕ) → a < n → IsMember (a, b) pairs → at labels b ≤ at labels a
  pub together : (a b : ℕ) → a < n → b < n → at labels a ≡ at labels b → Reaches pairs a b
