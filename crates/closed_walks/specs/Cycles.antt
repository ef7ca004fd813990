-- Closed walks of several numbers as they are listed: those of the numbers that have one, in the order of the numbers.
use Rattle.std.specs.Prelude.{◌≡◌, ◌⊎◌, ⊤, ℕ, List, [], ◌∷◌, ◌++◌}
use Rattle.components.specs.Lists.{IsMember}
use Rattle.closed_walks.specs.Walks.{IsClosedWalk, IsLeastClosedWalk}

-- the least shortest walk of a number, written with the number first and last
abbrev pub IsCycle : List (ℕ × ℕ) → ℕ → List ℕ → Type 0
IsCycle pairs s [] = ⊥
IsCycle pairs s (a ∷ over) = (a ≡ s) × IsLeastClosedWalk pairs s over

abbrev pub AreLeastWalksOf : List (ℕ × ℕ) → List ℕ → List (List ℕ) → Type 0
AreLeastWalksOf pairs [] [] = ⊤
AreLeastWalksOf pairs (s ∷ rest) (w ∷ walks) = IsCycle pairs s w × AreLeastWalksOf pairs rest walks
AreLeastWalksOf pairs _ _ = ⊥

-- the numbers xs stand so in ys, in the same order, where others may stand between them
abbrev pub StandIn : List ℕ → List ℕ → Type 0
StandIn xs [] = xs ≡ []
StandIn xs (y ∷ ys) = StandIn xs ys ⊎ ((rest : List ℕ) × (xs ≡ y ∷ rest) × StandIn rest ys)

-- a walk for each of the numbers from which a closed walk leads, and no other one
pub record AreCycles (pairs : List (ℕ × ℕ)) (numbers : List ℕ) (walks : List (List ℕ)) : Type 0 where
  pub starts : List ℕ
  pub among : StandIn starts numbers
  pub all : (s : ℕ) (over : List ℕ) → IsMember s numbers → IsClosedWalk pairs s over → IsMember s starts
  pub each : AreLeastWalksOf pairs starts walks

-- those of the numbers come behind what stands already
pub record Adds (pairs : List (ℕ × ℕ)) (numbers : List ℕ) (old new : List (List ℕ)) : Type 0 where
  pub more : List (List ℕ)
  pub are : new ≡ old ++ more
  pub cycles : AreCycles pairs numbers more
