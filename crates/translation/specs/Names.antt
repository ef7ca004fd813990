-- Made names among those that stand in blocks.
use Rattle.std.specs.Prelude.{◌↔◌, ◌⊎◌, ℕ, Option, Some, None, List, [], Contains}
use Rattle.tree.specs.Names.{IsSourceName}
use Rattle.tree.specs.Plain.{Block}
use Rattle.meaning.specs.Reads.{names_in_block}

abbrev pub names_in_option : Option Block → List (List ℕ)
names_in_option None = []
names_in_option (Some b) = names_in_block b

-- a name of these that FORTRAN 77 doesn't have
pub record IsMadeAmong (all : List (List ℕ)) (x : List ℕ) : Type 0 where
  pub among : Contains all x
  pub made : IsSourceName x → ⊥

-- the names with the made ones of a list
abbrev pub AreWithMade : List (List ℕ) → List (List ℕ) → List (List ℕ) → Type 0
AreWithMade names all with_made = (x : List ℕ) → Contains with_made x ↔ (Contains names x ⊎ IsMadeAmong all x)
