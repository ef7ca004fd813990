-- Each nest that was found has a nest with loops from 1 by 1.
use Rattle.std.specs.Prelude.{IsSome, Contains}
use Rattle.tree.specs.Plain.{Program}
use Rattle.meaning.specs.Dialect.{Dialect}
use Rattle.meaning.specs.Profile77.{IsProgram77}
use Rattle.nest.specs.Plain.{Nest}
use Rattle.find_nests.specs.Found.{InNest, found_in}
use Rattle.normal_loops.specs.Normalised.{normalised}

abbrev pub NormalisedIsThere : Type 0
NormalisedIsThere = (d : Dialect) (p : Program) (n : Nest) → IsProgram77 d p → Contains (found_in p) (InNest n)
    → IsSome (normalised n)
