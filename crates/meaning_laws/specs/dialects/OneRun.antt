-- A program of FORTRAN 77 means the same as one of Fortran 90.
use Rattle.std.specs.Prelude.{◌≡◌, Option, ℕ, List}
use Rattle.tree.specs.Plain.{Program}
use Rattle.meaning.specs.Array.{array_run}
use Rattle.meaning.specs.Dialect.{Dialect}
use Rattle.meaning.specs.Profile77.{IsProgram77}
use Rattle.meaning.specs.Run.{run}
use Rattle.meaning.specs.Sequential.{sequential_run}
use Rattle.tree.specs.declared.width.Width.{Width}

-- Two dialects with one range of INTEGER give it the same run: at the same limit of steps the same store, output, rest
-- of the input, number of steps and way of ending. It may be a program of the profile of any dialect
abbrev pub SourceHasOneRun : Type 0
SourceHasOneRun = (lang other own : Dialect) (limit : Option ℕ) (p : Program) (input : List ℕ)
    → lang.bits ≡ other.bits → IsProgram77 own p → run lang limit p input ≡ run other limit p input

-- so whoever writes a loop as a loop keeps its meaning
abbrev pub SequentialRunIsArrayRun : (width : Width) → Type 0
SequentialRunIsArrayRun width = (own : Dialect) (p : Program) (input : List ℕ)
    → IsProgram77 own p → sequential_run width p input ≡ array_run width p input
