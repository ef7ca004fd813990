-- What a command does with the bytes of a deck.
use Rattle.std.specs.Prelude.{ℕ, ◌≡◌, ◌⊎◌, List, Option, Some}
use Rattle.tree.specs.Plain.{Program}
use Rattle.meaning.specs.declared.End.{End}
use Rattle.meaning.specs.declared.End.TheVariants as end
use Rattle.streams.specs.Causes.{Rose}
use Rattle.streams.specs.Streams.{Gives, GivesPart}
use Rattle.tool.specs.declared.commands.commands.Command.{Command}
use Rattle.tool.specs.declared.commands.commands.Command.TheVariants.{Run90}
use Rattle.tool.specs.declared.report.outcome.Outcome.{Outcome}
use Rattle.tool.specs.declared.report.outcome.Outcome.TheVariants.{Done, Usage, Refused, Faulted, StepLimit, ReadFault}
use Rattle.tool.specs.declared.report.outcome.Outcome.TheVariants.{WriteFault, OutOfMemory}
use Rattle.tool.specs.Decks.{IsReadAs, IsRefusedFor}
use Rattle.tool.specs.Endings.{HasText, ending_of}

-- the bytes in the sink and its count of faults, before and after
pub record Writing : Type 0 where
  pub before : Option (List ℕ)
  pub now : Option (List ℕ)
  pub faults_before : ℕ
  pub faults_now : ℕ

-- the work came to this end, and all of its text was given
pub record GaveAll (ending : Option End) (text : List ℕ) (w : Writing) (e : End) : Type 0 where
  pub ending_is : ending ≡ Some e
  pub all : Gives w.before text w.now

-- the sink failed, and a front of the text was given
pub record GaveFront (text : List ℕ) (w : Writing) : Type 0 where
  pub fault : Rose w.faults_before w.faults_now
  pub front : GivesPart w.before text w.now

abbrev pub Comes : Option End → List ℕ → Writing → Outcome → Type 0
Comes ending text w Done = GaveAll ending text w end.Done
Comes ending text w (Faulted fault line) = GaveAll ending text w (end.Fault fault line)
Comes ending text w StepLimit = GaveAll ending text w end.StepLimit
Comes ending text w WriteFault = GaveFront text w
Comes ending text w _ = ⊥

-- or there was no memory, and a front of the text was given
abbrev pub ComesOrStops : Option End → List ℕ → Writing → Outcome → Type 0
ComesOrStops ending text w OutOfMemory = GivesPart w.before text w.now
ComesOrStops ending text w o = Comes ending text w o

-- with the program that the deck is read as
pub record ComesFor (c : Command) (deck : List ℕ) (w : Writing) (o : Outcome) : Type 0 where
  pub program : Program
  pub read : IsReadAs c deck program
  pub text : List ℕ
  pub has_text : HasText c deck program text
  pub comes : Comes (ending_of c deck program) text w o

-- with the program that the deck is read as, a front of the command's text was given
pub record FrontFor (c : Command) (deck : List ℕ) (w : Writing) : Type 0 where
  pub program : Program
  pub read : IsReadAs c deck program
  pub text : List ℕ
  pub has_text : HasText c deck program text
  pub front : GivesPart w.before text w.now

-- there was no memory: nothing was given, but that the array machine takes memory while it runs
abbrev pub WithoutMemory : Command → List ℕ → Writing → Type 0
WithoutMemory (Run90 options) deck w = (w.now ≡ w.before) ⊎ FrontFor (Run90 options) deck w
WithoutMemory c deck w = w.now ≡ w.before

abbrev pub Works : Command → List ℕ → Writing → Outcome → Type 0
Works c deck w Done = ComesFor c deck w Done
Works c deck w Usage = ⊥
Works c deck w (Refused r) = IsRefusedFor c r deck × (w.now ≡ w.before)
Works c deck w (Faulted fault line) = ComesFor c deck w (Faulted fault line)
Works c deck w StepLimit = ComesFor c deck w StepLimit
Works c deck w ReadFault = ⊥
Works c deck w WriteFault = ComesFor c deck w WriteFault
Works c deck w OutOfMemory = WithoutMemory c deck w
