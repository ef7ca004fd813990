-- The places of what is selected (ISO/IEC 1539:1991, sections 6.2.2.2 and 6.2.2.3).
use Rattle.std.specs.Prelude.{◌≡◌, true, ℕ, ◌+◌, ◌*◌, ℤ, pos, ◌-ℤ◌, nat_abs}
use Rattle.std.specs.Prelude.{Option, Some, None, if◌then◌else◌, List, [], ◌∷◌, map, get_or}
use Rattle.tree.specs.declared.ops.Value.{Value}
use Rattle.tree.specs.declared.ops.Value.TheVariants.{Int}
use Rattle.meaning.specs.Store.{size_of}
use Rattle.meaning.specs.Sections.{Axis, numbers_of, is_within_bounds, all_stand_in}

-- what is selected along each dimension stands within its bounds
abbrev pub AxesStand : List (ℤ × ℤ) → List Axis → Type 0
AxesStand [] [] = Unit {0}
AxesStand (b ∷ bs) (a ∷ axes) = (all_stand_in b (numbers_of a) ≡ true) × AxesStand bs axes
AxesStand _ _ = ⊥

-- the place of a number of the first dimension, with that of the others
abbrev pub place_in : ℤ × ℤ → ℕ → ℤ → ℕ
place_in b rest z = nat_abs (z -ℤ b.0) + size_of b * rest

abbrev pub row : ℤ × ℤ → List ℤ → ℕ → List ℕ
row b zs rest = map (place_in b rest) zs

abbrev pub somes : List ℕ → List (Option ℕ)
somes ks = map (λ k. let o : Option ℕ = Some k in o) ks

abbrev pub values_there : List Value → List ℕ → List Value
values_there vs ks = map (λ k. get_or vs k (Int (pos 0))) ks

-- how far a number is behind the lower bound, where it stands within both
abbrev pub index_in : ℤ × ℤ → ℤ → Option ℕ
index_in b z = if is_within_bounds b z then Some (nat_abs (z -ℤ b.0)) else None

abbrev pub places_there : List ℕ → List ℕ → List ℕ
places_there ks at = map (λ k. get_or ks k 0) at
