-- What is known of the nests that are found in a program.
use Rattle.std.specs.Prelude.{◌≡◌, Some, None, All, Contains}
use Rattle.tree.specs.Plain.{Program}
use Rattle.meaning.specs.Dialect.{fortran77}
use Rattle.tree.specs.declared.width.Width.{Width}
use Rattle.meaning.specs.Profile77.{IsProgram77}
use Rattle.find_nests.specs.Found.{InNest, found_in}
use Rattle.normal_loops.specs.Normalised.{normalised}
use Rattle.nest_order.specs.shapes.Shapes.{IsPlain}
use Rattle.nest.specs.Bodies.{Standing, nest_statements}
use Rattle.nest.specs.Plain.{Nest}
use Rattle.pass_laws.specs.found_sources.Alone.{HasLoopsAlone}
use Rattle.pass_laws.specs.normal_runs.Sources.{IsNormalSource}

abbrev pub FoundNestIsSource : (width : Width) → Type 0
FoundNestIsSource width = (p : Program) (n : Nest) → IsProgram77 (fortran77 width) p → Contains (found_in p) (InNest n)
    → HasLoopsAlone n.body → IsNormalSource n

-- no IF, label or jump has gone or come by itself
abbrev pub NormalNestIsPlain : (width : Width) → Type 0
NormalNestIsPlain width = (p : Program) (n m : Nest) → IsProgram77 (fortran77 width) p
    → Contains (found_in p) (InNest n)
    → normalised n ≡ Some m → HasLoopsAlone m.body
    → HasLoopsAlone n.body × IsPlain m.body
    × All (λ (s : Standing). s.statement.guard ≡ None) (nest_statements m)
