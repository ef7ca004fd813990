-- The numbers of the loops of a nest.
use Rattle.std.specs.Prelude.{◌≡◌, ℕ, Some, List, map, Contains}
use Rattle.tree.specs.Plain.{Program}
use Rattle.meaning.specs.Dialect.{Dialect}
use Rattle.meaning.specs.Profile77.{IsProgram77}
use Rattle.components.specs.Lists.{Distinct}
use Rattle.nest.specs.Plain.{Loop, Nest}
use Rattle.nest.specs.Bodies.{nest_loops}
use Rattle.find_nests.specs.Found.{InNest, found_in}
use Rattle.normal_loops.specs.Normalised.{normalised}

abbrev pub numbers_of : List Loop → List ℕ
numbers_of ls = map (λ (l : Loop). l.number) ls

-- loops are numbered through the program, and no number stands twice in a nest
abbrev pub FoundLoopsAreDistinct : Type 0
FoundLoopsAreDistinct = (d : Dialect) (p : Program) (n : Nest) → IsProgram77 d p → Contains (found_in p) (InNest n)
    → Distinct (numbers_of (nest_loops n))

-- what is made of a nest has its loops, each with its number
abbrev pub NormalLoopsAreThose : Type 0
NormalLoopsAreThose = (n m : Nest) → normalised n ≡ Some m → numbers_of (nest_loops m) ≡ numbers_of (nest_loops n)
