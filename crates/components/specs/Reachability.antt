-- Walks in a directed graph, which is given as the list of its pairs.
use Rattle.std.specs.Prelude.{◌≡◌, ◌<◌, ◌↔◌, ℕ, List, [], ◌∷◌}
use Rattle.components.specs.Lists.{IsMember, Each}

-- both numbers of each pair are below n
abbrev pub AreBelow : ℕ → List (ℕ × ℕ) → Type 0
AreBelow n pairs = Each (λ p. (p.0 < n) × (p.1 < n)) pairs

-- the same pairs, in whatever order, each however often
abbrev pub SamePairs : List (ℕ × ℕ) → List (ℕ × ℕ) → Type 0
SamePairs pairs others = (p : ℕ × ℕ) → IsMember p pairs ↔ IsMember p others

-- from a over the numbers of a list to b, each step by a pair
abbrev pub Walk : List (ℕ × ℕ) → ℕ → List ℕ → ℕ → Type 0
Walk pairs a [] b = a ≡ b
Walk pairs a (q ∷ rest) b = IsMember (a, q) pairs × Walk pairs q rest b

abbrev pub Reaches : List (ℕ × ℕ) → ℕ → ℕ → Type 0
Reaches pairs a b = (over : List ℕ) × Walk pairs a over b

-- each of the two reaches the other
abbrev pub AreMutual : List (ℕ × ℕ) → ℕ → ℕ → Type 0
AreMutual pairs a b = Reaches pairs a b × Reaches pairs b a
