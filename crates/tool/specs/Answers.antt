-- Words of the top call's clauses.
use Rattle.std.specs.Prelude.{ℕ, ◌≡◌, ◌⊎◌, List, [], ◌∷◌, Option, Some, IfSome}
use Rattle.tree.specs.declared.ops.Fault.{Fault as Kind}
use Rattle.tree.specs.Plain.{Program}
use Rattle.meaning.specs.Sequential.{ending}
use Rattle.meaning.specs.declared.End.TheVariants.{Fault}
use Rattle.tool.specs.declared.commands.commands.Command.{Command}
use Rattle.tool.specs.declared.commands.commands.Command.TheVariants.{Vectorise, Graph, Run77, Run90}
use Rattle.tool.specs.declared.commands.commands.Request.{Request}
use Rattle.tool.specs.declared.commands.commands.Request.TheVariants.{OnDeck, Make}
use Rattle.generator.specs.Decks.{deck_of}
use Rattle.tool.specs.Making.{HasMadeFault}
use Rattle.tool.specs.declared.report.outcome.Outcome.{Outcome}
use Rattle.tool.specs.declared.report.outcome.Outcome.TheVariants.{Refused, Faulted}
use Rattle.tool.specs.report.Notes.{status_of, note_of}
use Rattle.tool.specs.Decks.{IsRefused, IsReadAs}
use Rattle.tool.specs.Running.{run_of}
use Rattle.tree.specs.declared.width.Width.TheVariants.{Plain}

-- the status is one of these
abbrev pub IsOneOf : List ℕ → ℕ → Type 0
IsOneOf [] status = ⊥
IsOneOf (n ∷ []) status = status ≡ n
IsOneOf (n ∷ m ∷ ns) status = (status ≡ n) ⊎ IsOneOf (m ∷ ns) status

abbrev pub RunFaults : Command → Kind → ℕ → List ℕ → Type 0
RunFaults c fault line deck = (p : Program) × IsReadAs c deck p × (ending (run_of c deck p) ≡ Some (Fault fault line))

-- the deck's run ends in this fault at this line
abbrev pub HasFault : Command → Kind → ℕ → List ℕ → Type 0
HasFault (Vectorise w) fault line deck = ⊥
HasFault (Graph w) fault line deck = ⊥
HasFault (Run77 options) fault line deck = RunFaults (Run77 options) fault line deck
HasFault (Run90 options) fault line deck = RunFaults (Run90 options) fault line deck

-- A refusal is one of the deck's, and a fault is that of its run, where the deck is told. With `make` the deck is the
-- one that it makes, and the run is that of a translation of it
abbrev pub IsTrueOf : Option Request → Option (List ℕ) → Outcome → Type 0
IsTrueOf (Some (OnDeck c)) deck (Refused r) = IfSome deck (λ bytes. IsRefused c bytes r)
IsTrueOf (Some (OnDeck c)) deck (Faulted fault line) = IfSome deck (HasFault c fault line)
IsTrueOf (Some (Make n)) deck (Refused r) = IsRefused (Vectorise Plain) (deck_of n) r
IsTrueOf (Some (Make n)) deck (Faulted fault line) = HasMadeFault (deck_of n) fault line
IsTrueOf request deck _ = Unit {0}

-- The line is that of an outcome with this status, and what it tells of the deck is true.
pub record NoteFor (request : Option Request) (deck : Option (List ℕ)) (status : ℕ) (line : List ℕ) : Type 0 where
  pub outcome : Outcome
  pub status_is : status ≡ status_of outcome
  pub line_is : line ≡ note_of outcome
  pub is_true : IsTrueOf request deck outcome
