-- What further declarations do to the run of a program of FORTRAN 77.
use Rattle.std.specs.Prelude.{Option, ℕ, List}
use Rattle.tree.specs.Plain.{Declaration, Program}
use Rattle.meaning.specs.Agreement.{MomentsAgree}
use Rattle.meaning.specs.Array.{array_run}
use Rattle.meaning.specs.Dialect.{Dialect}
use Rattle.meaning.specs.Profile77.{IsProgram77}
use Rattle.meaning.specs.Run.{run}
use Rattle.meaning.specs.Sequential.{sequential_run}
use Rattle.tree.specs.declared.width.Width.{Width}
use Rattle.meaning_laws.specs.profiles.Profiles.{AddMadeNames}

-- with further declarations of made names it has the same ending, output, number of steps and rest of the input, and a
-- store that agrees on its own names
abbrev pub MadeNamesKeepRun : Type 0
MadeNamesKeepRun = (lang own : Dialect) (limit : Option ℕ) (p : Program) (es : List Declaration) (input : List ℕ)
    → IsProgram77 own p → AddMadeNames p.declarations es
    → MomentsAgree p (run lang limit p input) (run lang limit (record p { declarations = es }) input)

-- and so has its array run with these
abbrev pub ArrayRunWithMadeNames : (width : Width) → Type 0
ArrayRunWithMadeNames width = (own : Dialect) (p : Program) (es : List Declaration) (input : List ℕ)
    → IsProgram77 own p → AddMadeNames p.declarations es
    → MomentsAgree p (sequential_run width p input) (array_run width (record p { declarations = es }) input)
