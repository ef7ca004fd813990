-- What `make N` does: of a deck that it makes it gives a summary, the counts of a translation and the lines of its run.
use Rattle.std.specs.Prelude.{◌≡◌, ◌⊎◌, ◌++◌, ℕ, List, Option, Some}
use Rattle.tree.specs.Plain.{Program}
use Rattle.tree.specs.declared.ops.Fault.{Fault as Kind}
use Rattle.streams.specs.Causes.{Rose}
use Rattle.meaning.specs.Array.{array_run}
use Rattle.meaning.specs.Deck.{source_of, input_of, data_line77, data_line90}
use Rattle.meaning.specs.Run.{State}
use Rattle.meaning.specs.Sequential.{sequential_run, ending, EndsWell}
use Rattle.tree.specs.declared.width.Width.{Width}
use Rattle.tree.specs.declared.width.Width.TheVariants.{Plain}
use Rattle.meaning.specs.declared.End.{End}
use Rattle.meaning.specs.declared.End.TheVariants as end
use Rattle.f90_grammar.specs.Refusals.{Conforms90}
use Rattle.tool.specs.declared.commands.commands.Command.TheVariants.{Vectorise}
use Rattle.tool.specs.declared.report.outcome.Outcome.{Outcome}
use Rattle.tool.specs.declared.report.outcome.Outcome.TheVariants.{Done, Usage, Refused, Faulted, StepLimit, ReadFault}
use Rattle.tool.specs.declared.report.outcome.Outcome.TheVariants.{WriteFault, OutOfMemory}
use Rattle.tool.specs.Counts.{counts_text}
use Rattle.tool.specs.Decks.{Reads, IsReadAs, IsRefusedFor}
use Rattle.tool.specs.Given.{GivesWhere, GivesPartWhere}
use Rattle.tool.specs.Listings.{IsListedBeside}
use Rattle.tool.specs.Marked.{IsMarked}
use Rattle.tool.specs.Printed.{IsPrinted}
use Rattle.tool.specs.Translates.{Translates}
use Rattle.tool.specs.Vectorises.{VectorisesDeck}

-- all that `vectorise` promises of the text that it gives for the deck
abbrev pub IsTranslated : Width → List ℕ → List ℕ → Type 0
IsTranslated w deck text =
    Translates w deck text × IsListedBeside w deck text × IsMarked w deck text × IsPrinted w deck text
    × VectorisesDeck w deck text

-- ---- summaries

-- the array run of the program of a translation, on the translation's input
abbrev pub run_in : List ℕ → Program → State
run_in translation q = array_run Plain q (input_of data_line90 translation)

-- The text is a summary of the deck: it has the counts of a translation of the deck, and then the lines that the array
-- run of that translation writes
pub record IsSummary (deck text : List ℕ) : Type 0 where
  pub translation : List ℕ
  pub translates : IsTranslated Plain deck translation
  pub program : Program
  pub conforms : Conforms90 (source_of data_line90 translation) program
  pub text_is : text ≡ counts_text translation ++ (run_in translation program).written

-- a summary whose run comes to this end
pub record IsSummaryTo (e : End) (deck text : List ℕ) : Type 0 where
  pub summary : IsSummary deck text
  pub ends : ending (run_in summary.translation summary.program) ≡ Some e

-- a summary whose run ends by this fault
abbrev pub IsFaultedSummary : Kind → ℕ → List ℕ → List ℕ → Type 0
IsFaultedSummary fault line = IsSummaryTo (end.Fault fault line)

-- there is one
abbrev pub HasMadeFault : List ℕ → Kind → ℕ → Type 0
HasMadeFault deck fault line = (text : List ℕ) × IsFaultedSummary fault line deck text

-- nothing was given, or a front of a summary
abbrev pub GivesAtMostSummary : List ℕ → Option (List ℕ) → Option (List ℕ) → Type 0
GivesAtMostSummary deck before now = (now ≡ before) ⊎ GivesPartWhere before now (IsSummary deck)

-- ---- the deck itself

-- it is read, and its sequential run ends without fault
pub record RunsWell (deck : List ℕ) : Type 0 where
  pub program : Program
  pub reads : Reads (Vectorise Plain) deck program
  pub ends : EndsWell (sequential_run Plain program (input_of data_line77 deck))

-- it is read, and its sequential run ends by a fault
pub record RunsIntoFault (deck : List ℕ) : Type 0 where
  pub program : Program
  pub read : IsReadAs (Vectorise Plain) deck program
  pub fault : Kind
  pub line : ℕ
  pub ends : ending (sequential_run Plain program (input_of data_line77 deck)) ≡ Some (end.Fault fault line)

-- ---- how the work ends: the bytes in the sink and its count of faults are those before and after

abbrev pub Summarises : List ℕ → Option (List ℕ) → Option (List ℕ) → ℕ → ℕ → Outcome → Type 0
Summarises deck before now faults faults_now Done = GivesWhere before now (IsSummaryTo end.Done deck)
Summarises deck before now faults faults_now Usage = ⊥
Summarises deck before now faults faults_now (Refused r) = IsRefusedFor (Vectorise Plain) r deck × (now ≡ before)
Summarises deck before now faults faults_now (Faulted fault line) =
    GivesWhere before now (IsFaultedSummary fault line deck)
Summarises deck before now faults faults_now StepLimit = ⊥
Summarises deck before now faults faults_now ReadFault = ⊥
Summarises deck before now faults faults_now WriteFault =
    Rose faults faults_now × GivesPartWhere before now (IsSummary deck)
Summarises deck before now faults faults_now OutOfMemory = GivesAtMostSummary deck before now
