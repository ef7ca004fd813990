-- Closed walks and components.
use Rattle.std.specs.Prelude.{◌≡◌, ◌↔◌, ℕ, List, [], ◌∷◌}
use Rattle.components.specs.Lists.{Each, IsMember}
use Rattle.components.specs.Orders.{IsComponent}
use Rattle.closed_walks.specs.Walks.{IsClosedWalk, IsLeastClosedWalk}

abbrev pub WalksStayInComponents : Type 0
WalksStayInComponents =
    (pairs : List (ℕ × ℕ)) (c : List ℕ) (a : ℕ) (over : List ℕ)
    → IsComponent pairs c → IsMember a c → IsClosedWalk pairs a over → Each (λ q. IsMember q c) over

-- of two members each has a closed walk
abbrev pub MembersHaveWalks : Type 0
MembersHaveWalks =
    (pairs : List (ℕ × ℕ)) (c : List ℕ) (a b : ℕ)
    → IsComponent pairs c → IsMember a c → IsMember b c → ¬ (a ≡ b) → (over : List ℕ) × IsClosedWalk pairs a over

-- one that is alone has one exactly where it is paired with itself
abbrev pub LoneMembersHaveOwnPairs : Type 0
LoneMembersHaveOwnPairs =
    (pairs : List (ℕ × ℕ)) (a : ℕ)
    → IsComponent pairs (a ∷ []) → ((over : List ℕ) × IsClosedWalk pairs a over) ↔ IsMember (a, a) pairs

abbrev pub LeastWalkIsUnique : Type 0
LeastWalkIsUnique =
    (pairs : List (ℕ × ℕ)) (s : ℕ) (xs ys : List ℕ)
    → IsLeastClosedWalk pairs s xs → IsLeastClosedWalk pairs s ys → xs ≡ ys
