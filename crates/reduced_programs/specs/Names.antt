-- The names of a source in what it is translated to.
use Rattle.tree.specs.Plain.{Program}
use Rattle.meaning.specs.Dialect.{Dialect}
use Rattle.meaning.specs.Profile77.{IsProgram77}
use Rattle.meaning_laws.specs.profiles.Profiles.{AddMadeNames}
use Rattle.reduction_laws.specs.blocks.Meaning.{HasSourceNames}

-- a source has names of FORTRAN 77 alone, and what adds made names to them declares them too
abbrev pub SourceNamesStay : Type 0
SourceNamesStay = (lang : Dialect) (q p : Program) → IsProgram77 lang q → AddMadeNames q.declarations p.declarations
    → HasSourceNames q p
