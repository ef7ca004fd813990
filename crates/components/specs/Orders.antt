-- The strongly connected components of a directed graph in topological order.
use Rattle.std.specs.Prelude.{◌≡◌, ◌<◌, ◌↔◌, ⊤, ℕ, List, [], ◌∷◌}
use Rattle.std.specs.List.{concat}
use Rattle.components.specs.Lists.{IsMember, Each, Pairwise, Distinct, Rises}
use Rattle.components.specs.Reachability.{AreMutual}

-- c has with each number all those that it reaches and that reach it, and no others
abbrev pub IsComponent : List (ℕ × ℕ) → List ℕ → Type 0
IsComponent pairs c = (a b : ℕ) → IsMember a c → (IsMember b c ↔ AreMutual pairs a b)

-- no pair leads from the later one to the earlier one
abbrev pub NoneBack : List (ℕ × ℕ) → List ℕ → List ℕ → Type 0
NoneBack pairs earlier later = (a b : ℕ) → IsMember a later → IsMember b earlier → ¬ IsMember (a, b) pairs

-- no pair leads to c from another class of those that are still to come
abbrev pub MayComeNext : List (ℕ × ℕ) → List (List ℕ) → List ℕ → Type 0
MayComeNext pairs left c = (a b : ℕ) → IsMember a (concat left) → IsMember b c → IsMember (a, b) pairs → IsMember a c

-- the least member of c is below that of d
abbrev pub HasLess : List ℕ → List ℕ → Type 0
HasLess c d = (least : ℕ) × IsMember least c × Each (λ b. least < b) d

-- wherever several may come next, the one with the least member does
abbrev pub LeastFirst : List (ℕ × ℕ) → List (List ℕ) → Type 0
LeastFirst pairs [] = ⊤
LeastFirst pairs (c ∷ cs) = Each (λ d. MayComeNext pairs (c ∷ cs) d → HasLess c d) cs × LeastFirst pairs cs

-- the components of the numbers below n
pub record IsOrder (n : ℕ) (pairs : List (ℕ × ℕ)) (classes : List (List ℕ)) : Type 0 where
  pub members : (a : ℕ) → IsMember a (concat classes) ↔ (a < n)
  pub once : Distinct (concat classes)
  pub filled : Each (λ c. ¬ (c ≡ [])) classes
  pub rising : Each Rises classes
  pub components : Each (IsComponent pairs) classes
  pub forward : Pairwise (NoneBack pairs) classes
  pub least_first : LeastFirst pairs classes
