-- The first of a text's statements at which something holds.
use Rattle.std.specs.Prelude.{◌≡◌, ◌≤◌, ℕ, min, Option, Some, None, List, length}
use Rattle.f90_grammar.specs.Blocks.{Placed}
use Rattle.f90_grammar.specs.Order.{Place90, IsPlaceIn}

-- `n` statements stand before the first place at which it holds
pub record IsFirstPlace (ps : List Placed) (Holds : Place90 → Type 0) (n : ℕ) : Type 0 where
  pub place : Place90
  pub in_text : IsPlaceIn ps place
  pub holds : Holds place
  pub number : n ≡ length place.before
  pub first : (other : Place90) → IsPlaceIn ps other → Holds other → n ≤ length other.before

-- the first place is found, or it holds at none
abbrev pub FindsFirst : List Placed → (Place90 → Type 0) → Option ℕ → Type 0
FindsFirst ps Holds (Some n) = IsFirstPlace ps Holds n
FindsFirst ps Holds None = (p : Place90) → IsPlaceIn ps p → Holds p → ⊥

-- the earlier of two places, where there is one
abbrev pub earlier : Option ℕ → Option ℕ → Option ℕ
earlier None b = b
earlier (Some i) None = Some i
earlier (Some i) (Some j) = Some (min i j)
