-- Points that are gathered in a list, in any order.
use Rattle.std.specs.Prelude.{◌↔◌, ◌⊎◌, ℕ, ℤ, nat_eq, Bool, true, false, ◌&&◌, Option, Some, None, List, [], ◌∷◌}
use Rattle.std.specs.Ordering.{int_eq}
use Rattle.components.specs.Lists.{IsMember}
use Rattle.subscripts.specs.declared.affine.Affine.{Affine}
use Rattle.index_split.specs.declared.points.Sides.{Sides}

-- those of which this holds have come to those that were there
abbrev pub Adds : (ℕ → Type 0) → List ℕ → List ℕ → Type 0
Adds P old new = (x : ℕ) → IsMember x new ↔ (IsMember x old ⊎ P x)

-- two subscripts in one place, where both are linear
abbrev pub sides_of : Option Affine → Option Affine → Option Sides
sides_of None g = None
sides_of (Some f) None = None
sides_of (Some f) (Some g) = Some (record { first = f; second = g })

abbrev pub only_one : List Sides → Option Sides
only_one [] = None
only_one (s ∷ []) = Some s
only_one (s ∷ r ∷ ss) = None

-- as many of the same symbols
abbrev pub same_symbols : List (ℕ × ℤ) → List (ℕ × ℤ) → Bool
same_symbols [] [] = true
same_symbols [] (u ∷ us) = false
same_symbols (t ∷ ts) [] = false
same_symbols (t ∷ ts) (u ∷ us) = (nat_eq t.0 u.0 && int_eq t.1 u.1) && same_symbols ts us
