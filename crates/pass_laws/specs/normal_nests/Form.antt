-- What a nest that was found is with loops from 1 by 1: one loop, as it was before.
use Rattle.std.specs.Prelude.{◌≡◌, Some, Contains}
use Rattle.tree.specs.Plain.{Program}
use Rattle.meaning.specs.Dialect.{Dialect}
use Rattle.meaning.specs.Profile77.{IsProgram77}
use Rattle.nest.specs.Plain.{Loop, Nest, Parts, Turns}
use Rattle.find_nests.specs.Found.{InNest, found_in}
use Rattle.normal_loops.specs.Normalised.{normalised}

pub record HasNormalForm (n : Nest) : Type 0 where
  pub normal : Nest
  pub is : normalised n ≡ Some normal
  pub loop : Loop
  pub parts : Parts
  pub body : normal.body ≡ Turns loop parts

-- so each pass that asks for a loop as the body gives a nest, too
abbrev pub FoundNestHasNormalForm : Type 0
FoundNestHasNormalForm = (d : Dialect) (p : Program) (n : Nest) → IsProgram77 d p → Contains (found_in p) (InNest n)
    → HasNormalForm n
