-- What each number leads to.
use Rattle.std.specs.Prelude.{◌≡◌, ◌↔◌, ◌<◌, ℕ, suc, List, [], ◌∷◌, ◌++◌, map, length, slice_index_or}
use Rattle.components.specs.Counts.{tally, times_to}
use Rattle.components.specs.Lists.{IsMember}

-- what stands for a number; beyond the table nothing
abbrev pub row : List (List ℕ) → ℕ → List ℕ
row rows a = slice_index_or rows a []

-- for each number below n the ends of the pairs that begin there, each as often as such pairs are listed
pub record AreTargets (n : ℕ) (pairs : List (ℕ × ℕ)) (rows : List (List ℕ)) : Type 0 where
  pub count : length rows ≡ n
  pub each : (a b : ℕ) → IsMember b (row rows a) ↔ IsMember (a, b) pairs
  pub often : (b : ℕ) → tally [] b rows ≡ times_to b pairs

abbrev pub leads_from : ℕ → List (List ℕ) → List (ℕ × ℕ)
leads_from a [] = []
leads_from a (targets ∷ rows) = map (λ b. (a, b)) targets ++ leads_from (suc a) rows

-- all pairs of a table
abbrev pub leads : List (List ℕ) → List (ℕ × ℕ)
leads rows = leads_from 0 rows

-- what is led to has a row too
abbrev pub AreInside : List (List ℕ) → Type 0
AreInside rows = (a b : ℕ) → IsMember b (row rows a) → b < length rows
