-- What is made of a nest that was found may be tested for dependences.
use Rattle.std.specs.Prelude.{◌≡◌, Some, Contains}
use Rattle.tree.specs.Plain.{Program}
use Rattle.meaning.specs.Dialect.{Dialect}
use Rattle.meaning.specs.Profile77.{IsProgram77}
use Rattle.nest.specs.Plain.{Nest}
use Rattle.dependence_graph.specs.nest_graph.Ready.{IsReady}
use Rattle.find_nests.specs.Found.{InNest, found_in}
use Rattle.normal_loops.specs.Normalised.{normalised}

abbrev pub NormalNestIsReady : Type 0
NormalNestIsReady = (d : Dialect) (p : Program) (n m : Nest) → IsProgram77 d p → Contains (found_in p) (InNest n)
    → normalised n ≡ Some m → IsReady m
