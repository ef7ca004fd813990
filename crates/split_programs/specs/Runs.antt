-- The run of a split program.
use Rattle.std.specs.Prelude.{◌≡◌, ◌≤◌, Option, ℕ, List}
use Rattle.index_split.specs.Split.{IsSplitTo}
use Rattle.meaning.specs.Dialect.{Dialect, fortran77}
use Rattle.meaning.specs.Keeping.{KeepsMeaning}
use Rattle.tree.specs.declared.width.Width.{Width}
use Rattle.meaning.specs.Profile77.{IsProgram77}
use Rattle.meaning.specs.Run.{run}
use Rattle.tree.specs.Plain.{Program}

-- With INTEGER of at most 64 bits the split program has the run of its source, with or without arrays as values: at the
-- same limit of steps the same store, output, rest of the input, number of steps and way of ending, faults included
abbrev pub SplitProgramRunsAsSource : Type 0
SplitProgramRunsAsSource = (lang own : Dialect) (limit : Option ℕ) (p q : Program) (input : List ℕ)
    → lang.bits ≤ 63 → IsProgram77 own p → IsSplitTo p q → run lang limit q input ≡ run lang limit p input

-- so what keeps the meaning of the split program keeps that of its source
abbrev pub MeaningIsHandedOn : Width → Type 0
MeaningIsHandedOn width = (p s q : Program) (input : List ℕ) → IsProgram77 (fortran77 width) p → IsSplitTo p s
    → KeepsMeaning width s q input → KeepsMeaning width p q input
