-- Direction vectors: a direction for each loop round both references, from the outside in. `*` stands for `<`, `=` and
-- `>`.
use Rattle.std.specs.Prelude.{◌≡◌, ◌⊎◌, ℕ, ◌<◌, List, [], ◌∷◌}
use Rattle.std.specs.List.{AllZip}
use Rattle.components.specs.Lists.{Each}
use Rattle.subscripts.specs.declared.affine.Dir.{Dir}
use Rattle.subscripts.specs.declared.affine.Dir.TheVariants.{Lt, Eq, Gt, Any}

-- without `*`
abbrev pub IsPlain : List Dir → Type 0
IsPlain v = Each (λ e. e ≡ Any → ⊥) v

-- the first direction other than `=` is `<`, or all are `=` and the first statement stands before the second
abbrev pub MayComeFirst : ℕ → ℕ → List Dir → Type 0
MayComeFirst first second [] = first < second
MayComeFirst first second (Lt ∷ v) = Unit {0}
MayComeFirst first second (Eq ∷ v) = MayComeFirst first second v
MayComeFirst first second (Gt ∷ v) = ⊥
MayComeFirst first second (Any ∷ v) = ⊥

-- the same direction, or `*`
abbrev pub Allows : Dir → Dir → Type 0
Allows d e = (d ≡ Any) ⊎ (d ≡ e)

-- a vector stands for those without `*` that it allows
pub record StandsFor (d v : List Dir) : Type 0 where
  pub plain : IsPlain v
  pub allowed : AllZip Allows d v

-- P holds of exactly one in the list
abbrev pub HoldsOnce : {X : Type 0} → (X → Type 0) → List X → Type 0
HoldsOnce P [] = ⊥
HoldsOnce P (x ∷ xs) = (P x × Each (λ y. P y → ⊥) xs) ⊎ ((P x → ⊥) × HoldsOnce P xs)
