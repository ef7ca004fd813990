-- What `run77` and `run90` write.
use Rattle.std.specs.Prelude.{◌≡◌, ◌⊎◌, ◌++◌, ◌<◌, ℕ, List, [], Option, None, Some, if◌then◌else◌}
use Rattle.tree.specs.Plain.{Program}
use Rattle.meaning.specs.Deck.{input_of, data_line77, data_line90}
use Rattle.meaning.specs.Run.{State, run}
use Rattle.meaning.specs.Sequential.{ending}
use Rattle.meaning.specs.Dialect.{Dialect, fortran77, fortran90}
use Rattle.meaning.specs.Steps.{final_lines}
use Rattle.meaning.specs.declared.End.{End}
use Rattle.meaning.specs.declared.End.TheVariants.{Done, Fault}
use Rattle.tree.specs.declared.ops.Fault.{Fault as Kind}
use Rattle.streams.specs.Streams.{Gives, GivesPart}
use Rattle.tool.specs.commands.Command.{no_options}
use Rattle.tool.specs.declared.commands.commands.Command.{Command}
use Rattle.tool.specs.declared.commands.commands.Command.TheVariants.{Vectorise, Graph, Run77, Run90}
use Rattle.tool.specs.declared.commands.commands.Options.{Options}
use Rattle.tool.specs.Decks.{IsReadAs}

-- ---- the run that a command asks for

-- `run77` runs a deck of FORTRAN 77, `run90` one of Fortran 90
abbrev pub IsRun : Command → Type 0
IsRun (Vectorise w) = ⊥
IsRun (Graph w) = ⊥
IsRun (Run77 options) = Unit {0}
IsRun (Run90 options) = Unit {0}

-- the other commands run nothing
abbrev pub options_in : Command → Options
options_in (Vectorise w) = no_options
options_in (Graph w) = no_options
options_in (Run77 options) = options
options_in (Run90 options) = options

abbrev pub dialect_of : Command → Dialect
dialect_of (Vectorise w) = fortran77 w
dialect_of (Graph w) = fortran77 w
dialect_of (Run77 options) = fortran77 options.width
dialect_of (Run90 options) = fortran90 options.width

abbrev pub data_line_of : Command → List ℕ
data_line_of (Vectorise w) = data_line77
data_line_of (Graph w) = data_line77
data_line_of (Run77 options) = data_line77
data_line_of (Run90 options) = data_line90

abbrev pub input_for : Command → List ℕ → List ℕ
input_for c deck = input_of (data_line_of c) deck

-- the run of the program on the deck's input, cut at the limit of steps where one is given
abbrev pub run_of : Command → List ℕ → Program → State
run_of c deck p = run (dialect_of c) (options_in c).steps p (input_for c deck)

-- the run without a limit
abbrev pub whole_run_of : Command → List ℕ → Program → State
whole_run_of c deck p = run (dialect_of c) None p (input_for c deck)

-- ---- its text

-- the final store is shown where that is asked for, and only after a run that ended without fault and within the limit
abbrev pub final_part : Options → Program → State → Option End → List ℕ
final_part options p s (Some Done) = if options.final_store then final_lines p s.store else []
final_part options p s _ = []

-- the output of the run, and then the final store
abbrev pub run_text : Options → Program → State → List ℕ
run_text options p s = s.written ++ final_part options p s (ending s)

-- the text that the command's run gives
abbrev pub text_of_run : Command → List ℕ → Program → List ℕ
text_of_run c deck p = run_text (options_in c) p (run_of c deck p)

-- so many steps exceed the limit
abbrev pub Exceed : ℕ → Option ℕ → Type 0
Exceed steps None = ⊥
Exceed steps (Some n) = n < steps

-- the steps of the whole run exceed the limit
abbrev pub IsExceeded : Command → List ℕ → Program → Type 0
IsExceeded c deck p = Exceed (whole_run_of c deck p).steps (options_in c).steps

-- The deck is read, its run ends so, and all of its text was given.
pub record GivesRun (c : Command) (end : End) (before now : Option (List ℕ)) (deck : List ℕ) : Type 0 where
  pub program : Program
  pub read : IsReadAs c deck program
  pub ending : ending (run_of c deck program) ≡ Some end
  pub text : Gives before (text_of_run c deck program) now

-- The same of a run that ends by some fault.
abbrev pub GivesFaultedRun : Command → Option (List ℕ) → Option (List ℕ) → List ℕ → Type 0
GivesFaultedRun c before now deck = (fault : Kind) × (line : ℕ) × GivesRun c (Fault fault line) before now deck

-- The deck is read, and a front of its run's text was given.
pub record GivesRunPart (c : Command) (before now : Option (List ℕ)) (deck : List ℕ) : Type 0 where
  pub program : Program
  pub read : IsReadAs c deck program
  pub text : GivesPart before (text_of_run c deck program) now

-- nothing was given, or a front of the run's text
abbrev pub GivesAtMostPart : Command → Option (List ℕ) → Option (List ℕ) → List ℕ → Type 0
GivesAtMostPart c before now deck = (now ≡ before) ⊎ GivesRunPart c before now deck
