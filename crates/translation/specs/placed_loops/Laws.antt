-- The meaning of a program with other statements in the place of some loops.
use Rattle.std.specs.Prelude.{ℕ, List}
use Rattle.tree.specs.Plain.{Program}
use Rattle.meaning.specs.Dialect.{fortran77}
use Rattle.meaning.specs.Keeping.{KeepsMeaning}
use Rattle.tree.specs.declared.width.Width.{Width}
use Rattle.meaning.specs.Profile77.{IsProgram77}
use Rattle.meaning.specs.Profile90.{IsProgram90}
use Rattle.meaning_laws.specs.profiles.Profiles.{AddMadeNames}
use Rattle.translation.specs.placed_loops.Placed.{IsPlaced}

-- of a program with further names and such blocks
abbrev pub PlacedLoopsKeepMeaning : (width : Width) → Type 0
PlacedLoopsKeepMeaning width = (p q : Program) (input : List ℕ)
    → IsProgram77 (fortran77 width) p → IsProgram90 q → AddMadeNames p.declarations q.declarations
    → IsPlaced width p q p.body q.body → KeepsMeaning width p q input
