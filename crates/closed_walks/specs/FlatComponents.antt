-- Components level by level (as emission has them for marks), and those of all edges at work at a level.
use Rattle.std.specs.Prelude.{◌≡◌, ◌↔◌, ⊤, ℕ, zero, suc, Bool, true, List, [], ◌∷◌}

module _ (leads : ℕ → ℕ → ℕ → Bool) where
  abbrev pub IsFlatWalk : ℕ → (ℕ → Type 0) → ℕ → List ℕ → ℕ → Type 0
  IsFlatWalk k Has s [] r = s ≡ r
  IsFlatWalk k Has s (q ∷ qs) r = (leads k s q ≡ true) × Has q × IsFlatWalk k Has q qs r

  abbrev pub ReachesFlat : ℕ → (ℕ → Type 0) → ℕ → ℕ → Type 0
  ReachesFlat k Has s r = (qs : List ℕ) × IsFlatWalk k Has s qs r

  -- within the component of the level before
  abbrev pub IsWith : ℕ → ℕ → ℕ → Type 0
  IsWith zero s r = ⊤
  IsWith (suc k) s r = ReachesFlat (suc k) (IsWith k s) s r × ReachesFlat (suc k) (IsWith k s) r s

  -- by edges at work there, over any statements
  abbrev pub IsJoined : ℕ → ℕ → ℕ → Type 0
  IsJoined k s r = ReachesFlat k (λ q. ⊤) s r × ReachesFlat k (λ q. ⊤) r s

-- what is at work at a level is so at each level outside it
abbrev pub NestedIsFlat : Type 0
NestedIsFlat =
    (leads : ℕ → ℕ → ℕ → Bool) → ((k s r : ℕ) → leads (suc k) s r ≡ true → leads k s r ≡ true)
    → (k s r : ℕ) → IsWith leads (suc k) s r ↔ IsJoined leads (suc k) s r
