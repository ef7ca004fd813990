-- The blocks that stand in the place of a program's nests.
use Rattle.std.specs.Prelude.{◌≡◌, ◌≤◌, ◌<◌, ℕ, Option, Some, List, Contains}
use Rattle.tree.specs.Plain.{Block, Declaration, Program}
use Rattle.find_nests.specs.Found.{InNest, found_in}
use Rattle.translation.specs.loop_numbers.Numbers.{loop_number}
use Rattle.translation.specs.loop_placing.Placing.{block_at}
use Rattle.translation.specs.made_declarations.Declaring.{declaration_of_made}
use Rattle.translation.specs.nest_translation.Laws.{IsTranslatedNest}
use Rattle.listing.specs.declared.programs.counts.Counts.{Counts}
use Rattle.listing.specs.programs.Passed.{IsPassedAs}
use Rattle.nest.specs.Plain.{Made, Nest}

-- a nest of the program whose outermost loop has this number, and its translation
pub record IsBlockOfLoop (p : Program) (k : ℕ) (b : Block) : Type 0 where
  pub nest : Nest
  pub among : Contains (found_in p) (InNest nest)
  pub number : loop_number nest ≡ k
  pub normal : Nest
  pub translated : IsTranslatedNest nest normal b

-- A name that passes made for a nest of the program is declared so, where so much was made before the nest with a
-- number, and the last nest that passes made of it is known by that number
pub record IsMadeForNest (p : Program) (before : ℕ → Counts) (last_of : ℕ → Option Nest) (d : Declaration) : Type 0
  where
    pub nest : Nest
    pub among : Contains (found_in p) (InNest nest)
    pub last : Nest
    pub is_last : last_of nest.number ≡ Some last
    pub passed : IsPassedAs (before nest.number) nest last
    pub array : Made
    pub made : Contains last.made array
    pub is : declaration_of_made array ≡ d

-- with the masks and copies of a nest there are no more than before each nest behind it, so that no two nests have the
-- same mask or the same copy
abbrev pub AreNumbered : (ℕ → Counts) → (ℕ → Option Nest) → Type 0
AreNumbered before last_of = (j k : ℕ) (m : Nest) → last_of j ≡ Some m → j < k
    → (m.masks ≤ (before k).masks) × (m.copies ≤ (before k).copies)

-- Each block is a translation; loops are numbered from 1. And each of these declarations is of a name that passes made,
-- where all such names of a nest that has a block are declared
pub record AreNestBlocks (p : Program) (blocks : List (Option Block)) (made : List Declaration) : Type 0 where
  pub only : (k : ℕ) (b : Block) → 1 ≤ k → block_at blocks k ≡ Some b → IsBlockOfLoop p k b
  pub declared : (k : ℕ) (b : Block) (from : 1 ≤ k) (e : block_at blocks k ≡ Some b) (a : Made)
      → Contains (only k b from e).normal.made a → Contains made (declaration_of_made a)
  -- what was made before the nest with a number
  pub before : ℕ → Counts
  -- and what passes made of it
  pub last_of : ℕ → Option Nest
  pub numbered : AreNumbered before last_of
  pub made_are : (d : Declaration) → Contains made d → IsMadeForNest p before last_of d
