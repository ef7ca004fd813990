-- What a nest does beside the loop that it comes from.
use Rattle.std.specs.Prelude.{◌≡◌, Option, ℕ}
use Rattle.tree.specs.Plain.{Program}
use Rattle.meaning.specs.Dialect.{Dialect}
use Rattle.meaning.specs.Profile77.{IsProgram77}
use Rattle.meaning.specs.Relined.{AlikeButLine}
use Rattle.meaning.specs.Run.{State, does, does_all}
use Rattle.nest.specs.Plain.{Nest}
use Rattle.nest.specs.Blocks.{block_of_nest}
use Rattle.find_nests.specs.Loops.{SourceLoop, as_statement}
use Rattle.find_nests.specs.Laws.{IsFoundNest}

-- from each moment the nest's block goes where the loop goes, but for the line of a fault
abbrev pub RunsAsLoop : Nest → SourceLoop → Type 0
RunsAsLoop n l = (lang : Dialect) (limit : Option ℕ) (s : State)
    → AlikeButLine (does lang limit (as_statement l) s) (does_all lang limit (block_of_nest n) s)
    × ((does lang limit (as_statement l) s).had_value ≡ (does_all lang limit (block_of_nest n) s).had_value)

-- a nest of a program of the profile does so beside its loop
abbrev pub FoundNestRuns : Type 0
FoundNestRuns = (d : Dialect) (p : Program) (n : Nest) (found : IsFoundNest p n)
    → IsProgram77 d p → RunsAsLoop n found.loop.loop.loop
