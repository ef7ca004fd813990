-- What a split program is.
use Rattle.index_split.specs.Split.{IsSplitTo}
use Rattle.meaning.specs.Dialect.{Dialect}
use Rattle.meaning.specs.Profile77.{IsProgram77}
use Rattle.tree.specs.Plain.{Program}

-- a program of the profile again, whatever INTEGER it was made for
abbrev pub SplitProgramIsOfProfile : Type 0
SplitProgramIsOfProfile = (own : Dialect) (p q : Program) → IsProgram77 own p → IsSplitTo p q → IsProgram77 own q
