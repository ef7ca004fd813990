-- Nests as values, without where they lie in memory (Allen and Kennedy, "Optimizing Compilers for Modern
-- Architectures", sections 2.2 and 4.2). A name is its bytes.
use Rattle.std.specs.Prelude.{ℕ, ℤ, Option, List, [], ◌∷◌}
use Rattle.tree.specs.Plain.{Expression, Reference, Block, Declaration}
use Rattle.tree.specs.declared.ops.Kind.{Kind}
use Rattle.nest.specs.declared.parts.Trip.{Trip}

-- A loop: its number in the program, its variable, its bounds and the value of its increment. With a trip it goes from
-- 1 to the trip by 1
pub record Loop : Type 0 where
  pub number : ℕ
  pub variable : List ℕ
  pub first : Expression
  pub last : Expression
  pub step : ℤ
  pub trip : Option Trip

-- an assignment, done where the guard is true, and always where there is none
pub record Guarded : Type 0 where
  pub line : ℕ
  pub guard : Option Expression
  pub left : Reference
  pub right : Expression

-- A part of a nest: a statement, a loop with its body, a block IF with its arms and its ELSE part, a label, a jump to a
-- label
mutual
  pub data Part : Type 0 where
    Run : Guarded → Part
    Turns : Loop → Parts → Part
    Choice : Branches → Parts → Part
    Label : ℕ → Part
    Jump : ℕ → Part

  pub data Parts : Type 0 where
    no_parts : Parts
    part : Part → Parts → Parts

  pub data Branches : Type 0 where
    no_branches : Branches
    branch : Expression → Parts → Branches → Branches

-- an array that a pass made, with its extents, those of the innermost loop first; a scalar where there are none
pub record Made : Type 0 where
  pub name : List ℕ
  pub kind : Kind
  pub extents : List Expression

pub record Nest : Type 0 where
  pub number : ℕ
  pub line : ℕ
  pub title : Option (List ℕ)
  pub body : Part
  pub declarations : List Declaration
  pub symbols : List (List ℕ)
  pub made : List Made
  pub after : Block
  pub masks : ℕ
  pub copies : ℕ

-- ---- lists of parts

abbrev pub parts : List Part → Parts
parts [] = no_parts
parts (p ∷ ps) = part p (parts ps)
