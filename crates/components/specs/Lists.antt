-- Words on lists, by recursion.
use Rattle.std.specs.Prelude.{◌≡◌, ◌<◌, ◌⊎◌, ⊤, ℕ, List, [], ◌∷◌}

abbrev pub IsMember : {X : Type 0} → X → List X → Type 0
IsMember x [] = ⊥
IsMember x (y ∷ ys) = (x ≡ y) ⊎ IsMember x ys

abbrev pub Each : {X : Type 0} → (X → Type 0) → List X → Type 0
Each P [] = ⊤
Each P (x ∷ xs) = P x × Each P xs

-- R holds of each element and each later one
abbrev pub Pairwise : {X : Type 0} → (X → X → Type 0) → List X → Type 0
Pairwise R [] = ⊤
Pairwise R (x ∷ xs) = Each (R x) xs × Pairwise R xs

-- none stands twice
abbrev pub Distinct : {X : Type 0} → List X → Type 0
Distinct xs = Pairwise (λ x y. ¬ (x ≡ y)) xs

-- each number is below all later ones
abbrev pub Rises : List ℕ → Type 0
Rises xs = Pairwise (λ x y. x < y) xs
