-- The translation of a program.
use Rattle.std.specs.Prelude.{◌≡◌, ◌↔◌, ℕ, Option, Some, List, Contains, map}
use Rattle.tree.specs.Names.{IsSourceName}
use Rattle.tree.specs.Plain.{Block, Declaration, Program, block}
use Rattle.meaning.specs.Reads.{names_in_block}
use Rattle.translation.specs.loop_placing.Placing.{block_at, placed_in}
use Rattle.translation.specs.made_declarations.Declaring.{declaration_by, with_declarations}

-- it stands in one of the blocks
pub record StandsInBlocks (blocks : List (Option Block)) (x : List ℕ) : Type 0 where
  pub number : ℕ
  pub block : Block
  pub is : block_at blocks number ≡ Some block
  pub among : Contains (names_in_block block) x

-- a made name: none that FORTRAN 77 has
pub record IsMadeIn (blocks : List (Option Block)) (x : List ℕ) : Type 0 where
  pub stands : StandsInBlocks blocks x
  pub made : IsSourceName x → ⊥

-- q is p with each of these blocks in the place of its loop; and each made name that stands in one of them is
-- declared, and no other one: as in these declarations of names that passes made, or as an INTEGER scalar
pub record IsPlacedBy (p : Program) (blocks : List (Option Block)) (made : List Declaration) (q : Program)
    : Type 0 where
  pub name : q.name ≡ p.name
  pub body : q.body ≡ block (placed_in blocks 0 p.body)
  pub names : List (List ℕ)
  pub names_are : (x : List ℕ) → Contains names x ↔ IsMadeIn blocks x
  pub declarations : q.declarations ≡ with_declarations p.declarations (map (declaration_by made) names)
