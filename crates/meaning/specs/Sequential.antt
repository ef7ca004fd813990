-- The sequential meaning of a program of FORTRAN 77, and how a run ends.
use Rattle.std.specs.Prelude.{◌≡◌, Option, Some, None, ℕ, List}
use Rattle.tree.specs.Plain.{Program}
use Rattle.tree.specs.declared.width.Width.{Width}
use Rattle.meaning.specs.Run.{State, run, Way, Going, Jumping, Stopped, Failed, Cut}
use Rattle.meaning.specs.Dialect.{fortran77}
use Rattle.meaning.specs.declared.End.{End}
use Rattle.meaning.specs.declared.End.TheVariants.{Done, Fault, StepLimit}

abbrev pub sequential_run : Width → Program → List ℕ → State
sequential_run w p input = run (fortran77 w) None p input

-- A run has ended. A jump that leaves the program is no ending; a program of the profile has none
abbrev pub end_of : Way → Option End
end_of Going = Some Done
end_of (Jumping n) = None
end_of Stopped = Some Done
end_of (Failed fault line) = Some (Fault fault line)
end_of Cut = Some StepLimit

abbrev pub ending : State → Option End
ending s = end_of s.way

-- without fault, at END or STOP
abbrev pub EndsWell : State → Type 0
EndsWell s = ending s ≡ Some Done
