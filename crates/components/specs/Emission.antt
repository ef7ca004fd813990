-- What recursive emission of a nest uses: its statements in classes, none of which leads to an earlier one.
use Rattle.std.specs.Prelude.{◌≡◌, ◌↔◌, ◌<◌, ℕ, List, [], ◌∷◌, length, map, slice_index}
use Rattle.std.specs.List.{concat}
use Rattle.components.specs.Lists.{IsMember, Each, Pairwise, Distinct}
use Rattle.components.specs.Orders.{NoneBack}

-- from s over the statements of a list to r, all of them in the part
abbrev pub WalkWithin : List ℕ → List (ℕ × ℕ) → ℕ → List ℕ → ℕ → Type 0
WalkWithin part leaps s [] r = s ≡ r
WalkWithin part leaps s (q ∷ rest) r = IsMember (s, q) leaps × IsMember q part × WalkWithin part leaps q rest r

abbrev pub ReachesWithin : List ℕ → List (ℕ × ℕ) → ℕ → ℕ → Type 0
ReachesWithin part leaps s r = (over : List ℕ) × WalkWithin part leaps s over r

-- a part of a nest by its statements, and which of them lead to which
pub record Components (part : List ℕ) (leaps : List (ℕ × ℕ)) (classes : List (List ℕ)) : Type 0 where
  pub same : (s : ℕ) → IsMember s part ↔ IsMember s (concat classes)
  pub once : Distinct (concat classes)
  pub reachable : Each (λ c. (s r : ℕ) → IsMember s c → IsMember r c → ReachesWithin part leaps s r) classes
  pub filled : Each (λ c. ¬ (c ≡ [])) classes
  pub forward : Pairwise (NoneBack leaps) classes

-- the places of a part, paired where their statements lead to one another
abbrev pub ArePlaces : List ℕ → List (ℕ × ℕ) → List (ℕ × ℕ) → Type 0
ArePlaces part leaps pairs =
    (i j : ℕ)
    → IsMember (i, j) pairs
    ↔ ((i < length part) × (j < length part) × IsMember (slice_index part i, slice_index part j) leaps)

abbrev pub statements_of_classes : List ℕ → List (List ℕ) → List (List ℕ)
statements_of_classes part classes = map (map (slice_index part)) classes
