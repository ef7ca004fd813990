-- What a nest is listed as: its nest with loops from 1 by 1, whatever stands behind it.
use Rattle.std.specs.Prelude.{◌≡◌, Some}
use Rattle.nest.specs.Bodies.{nest_loops, nest_statements}
use Rattle.nest.specs.Plain.{Nest}
use Rattle.normal_loops.specs.Listed.{HasNormalLoops}
use Rattle.normal_loops.specs.Normalised.{normalised}

-- such a nest is listed
abbrev pub NormalNestIsListed : Type 0
NormalNestIsListed = (n m : Nest) → normalised n ≡ Some m → HasNormalLoops n m

-- m has the body of the nest with loops from 1 by 1
pub record HasNormalBody (n m : Nest) : Type 0 where
  pub normal : Nest
  pub made : normalised n ≡ Some normal
  pub body : m.body ≡ normal.body

-- no other nest is listed, but for what stands behind it
abbrev pub ListedNestIsNormal : Type 0
ListedNestIsNormal = (n m : Nest) → HasNormalLoops n m → HasNormalBody n m

-- a nest is listed as one nest: with these loops, each with its trip, and with these statements
abbrev pub ListedNestIsOne : Type 0
ListedNestIsOne = (n m k : Nest) → HasNormalLoops n m → HasNormalLoops n k
    → (nest_loops m ≡ nest_loops k) × (nest_statements m ≡ nest_statements k)
