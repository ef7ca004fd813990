-- Where the jumps of a program lead.
use Rattle.tree.specs.Plain.{Program}
use Rattle.meaning.specs.Dialect.{Dialect}
use Rattle.meaning.specs.Jumps.{AllJumpsForward}
use Rattle.meaning.specs.Profile77.{IsProgram77}
use Rattle.meaning.specs.Profile90.{IsProgram90}

-- each GO TO leads to a label later in its block or in a block round it, and so every run of the program has an ending
abbrev pub SourceJumpsForward : Type 0
SourceJumpsForward = (lang : Dialect) (p : Program) → IsProgram77 lang p → AllJumpsForward p

abbrev pub TargetJumpsForward : Type 0
TargetJumpsForward = (p : Program) → IsProgram90 p → AllJumpsForward p
