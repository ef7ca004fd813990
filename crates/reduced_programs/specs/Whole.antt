-- Reduced programs, of which nothing is asked but that the program given is of the profile, with room for the forms.
use Rattle.std.specs.Prelude.{◌+◌, ◌≤◌, ℕ, List}
use Rattle.tree.specs.Limits as limits
use Rattle.tree.specs.Plain.{Program}
use Rattle.meaning.specs.Keeping.{KeepsMeaning}
use Rattle.tree.specs.declared.width.Width.{Width}
use Rattle.meaning.specs.Profile90.{IsProgram90}
use Rattle.rewrite.specs.Profile.{deepest_in}
use Rattle.reductions.specs.Reduced.{reduced_program}
use Rattle.reduction_laws.specs.blocks.Meaning.{HasSourceNames}

abbrev pub ReducedProgramIsProgram : Type 0
ReducedProgramIsProgram = (p : Program) → IsProgram90 p → deepest_in p.body + 4 ≤ limits.expression_depth90
    → IsProgram90 (reduced_program p)

-- q is a source
abbrev pub WholeProgramKeepsMeaning : Width → Type 0
WholeProgramKeepsMeaning width = (q p : Program) (input : List ℕ) → HasSourceNames q p → IsProgram90 p
    → deepest_in p.body + 4 ≤ limits.expression_depth90
    → KeepsMeaning width q p input → KeepsMeaning width q (reduced_program p) input
