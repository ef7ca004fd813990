-- What a call of the tool did with its deck and its sink, by the command and by how it ended.
use Rattle.std.specs.Prelude.{ℕ, ◌≡◌, ◌⊎◌, Bool, true, false, not, List, Option, None, Some, IfSome}
use Rattle.std.specs.Io.KnownBytes.{IsAtEnd}
use Rattle.tree.specs.declared.refusals.Refusal.{Refusal}
use Rattle.tree.specs.Plain.{Program}
use Rattle.meaning.specs.Deck.{has_data, input_of, data_line77}
use Rattle.meaning.specs.Sequential.{ending}
use Rattle.meaning.specs.declared.End.{End}
use Rattle.meaning.specs.declared.End.TheVariants as end
use Rattle.streams.specs.Causes.{Rose}
use Rattle.streams.specs.Streams.{TakesMoreThan, Gives, GivesPart}
use Rattle.tool.specs.declared.commands.commands.Command.{Command}
use Rattle.tool.specs.declared.commands.commands.Command.TheVariants.{Vectorise, Graph, Run77, Run90}
use Rattle.tool.specs.declared.commands.commands.Request.{Request}
use Rattle.tool.specs.declared.commands.commands.Request.TheVariants.{OnDeck, Make}
use Rattle.tool.specs.declared.report.outcome.Outcome.{Outcome}
use Rattle.tool.specs.declared.report.outcome.Outcome.TheVariants.{Done, Usage, Refused, Faulted, StepLimit, ReadFault}
use Rattle.tool.specs.declared.report.outcome.Outcome.TheVariants.{WriteFault, OutOfMemory}
use Rattle.listing.specs.programs.Listing.{IsListingText}
use Rattle.generator.specs.Decks.{deck_of}
use Rattle.tool.specs.Decks.{IsRefused, IsReadAs, IsRefusedFor, most_bytes}
use Rattle.tool.specs.Making.{Summarises}
use Rattle.tool.specs.Running.{IsRun, run_of, text_of_run}
use Rattle.tool.specs.Translation.{IsTranslationText}

-- the bytes left in the deck, the bytes in the sink, and both counts of faults, before the call and after it
pub record Call : Type 0 where
  pub left_before : Option (List ℕ)
  pub left_now : Option (List ℕ)
  pub taken_before : Option (List ℕ)
  pub taken_now : Option (List ℕ)
  pub deck_faults_before : ℕ
  pub deck_faults_now : ℕ
  pub out_faults_before : ℕ
  pub out_faults_now : ℕ

-- to its end, or past the limit of bytes
abbrev pub IsReadOrPassed : ℕ → Option (List ℕ) → Option (List ℕ) → Type 0
IsReadOrPassed most before now = IsAtEnd now ⊎ TakesMoreThan most before now

-- Only where a limit of bytes is passed, the deck may not have been read to its end.
abbrev pub IsReadFor : ℕ → Option (List ℕ) → Option (List ℕ) → Refusal → Type 0
IsReadFor most before now r = IsReadOrPassed most before now × ((r.number ≡ 1 → ⊥) → IsAtEnd now)

-- The deck is refused for the command, and so far it was read.
abbrev pub IsRefusedAfter : Command → Option (List ℕ) → Option (List ℕ) → List ℕ → Type 0
IsRefusedAfter c before now bytes = (r : Refusal) × IsRefused c bytes r × IsReadFor (most_bytes c) before now r

-- ---- what a command comes to with a deck and its program

-- a translation needs no run, nor does a listing
abbrev pub ending_of : Command → List ℕ → Program → Option End
ending_of (Vectorise w) deck p = Some end.Done
ending_of (Graph w) deck p = Some end.Done
ending_of (Run77 options) deck p = ending (run_of (Run77 options) deck p)
ending_of (Run90 options) deck p = ending (run_of (Run90 options) deck p)

-- a text that it may write: that of a run is one, a translation and a listing are any of the program
abbrev pub HasText : Command → List ℕ → Program → List ℕ → Type 0
HasText (Vectorise w) deck p text = IsTranslationText p (has_data data_line77 deck) (input_of data_line77 deck) text
HasText (Graph w) deck p text = IsListingText p text
HasText (Run77 options) deck p text = text ≡ text_of_run (Run77 options) deck p
HasText (Run90 options) deck p text = text ≡ text_of_run (Run90 options) deck p

-- the command has come to this end, and has given all of its text
pub record GivesAll (c : Command) (e : End) (before now : Option (List ℕ)) (deck : List ℕ) : Type 0 where
  pub program : Program
  pub read : IsReadAs c deck program
  pub ending : ending_of c deck program ≡ Some e
  pub text : List ℕ
  pub has_text : HasText c deck program text
  pub given : Gives before text now

-- the command has given a front of its text
pub record GivesFront (c : Command) (before now : Option (List ℕ)) (deck : List ℕ) : Type 0 where
  pub program : Program
  pub read : IsReadAs c deck program
  pub text : List ℕ
  pub has_text : HasText c deck program text
  pub given : GivesPart before text now

-- ---- how a call ends

-- where there is no memory, nothing was given; but the array machine takes memory while it runs
abbrev pub GivesLittle : Command → Call → Type 0
GivesLittle (Vectorise w) c = c.taken_now ≡ c.taken_before
GivesLittle (Graph w) c = c.taken_now ≡ c.taken_before
GivesLittle (Run77 options) c = c.taken_now ≡ c.taken_before
GivesLittle (Run90 options) c =
    (c.taken_now ≡ c.taken_before)
    ⊎ IfSome c.left_before (GivesFront (Run90 options) c.taken_before c.taken_now)

abbrev pub EndsAt : Command → Call → End → Type 0
EndsAt k c e = IsAtEnd c.left_now × IfSome c.left_before (GivesAll k e c.taken_before c.taken_now)

abbrev pub Ends : Command → Call → Outcome → Type 0
Ends k c Done = EndsAt k c end.Done
Ends k c Usage = ⊥
Ends k c (Refused r) = IfSome c.left_before (IsRefusedFor k r) × IsReadFor (most_bytes k) c.left_before c.left_now r
    × (c.taken_now ≡ c.taken_before)
Ends k c (Faulted fault line) = IsRun k × EndsAt k c (end.Fault fault line)
Ends k c StepLimit = IsRun k × EndsAt k c end.StepLimit
Ends k c ReadFault = Rose c.deck_faults_before c.deck_faults_now × (c.taken_now ≡ c.taken_before)
Ends k c WriteFault = Rose c.out_faults_before c.out_faults_now × IsAtEnd c.left_now
    × IfSome c.left_before (GivesFront k c.taken_before c.taken_now)
Ends k c OutOfMemory = GivesLittle k c

-- `run90` and `make` alone take memory when they may have written
abbrev pub writes_early : Option Request → Bool
writes_early (Some (OnDeck (Run90 options))) = true
writes_early (Some (Make n)) = true
writes_early request = false

-- a call that ends so has written nothing
abbrev pub is_silent : Option Request → Outcome → Bool
is_silent c Done = false
is_silent c Usage = true
is_silent c (Refused r) = true
is_silent c (Faulted fault line) = false
is_silent c StepLimit = false
is_silent c ReadFault = true
is_silent c WriteFault = false
is_silent c OutOfMemory = not (writes_early c)

-- a call that ends so has given all of its text
abbrev pub gives_all : Outcome → Bool
gives_all Done = true
gives_all Usage = false
gives_all (Refused r) = false
gives_all (Faulted fault line) = true
gives_all StepLimit = true
gives_all ReadFault = false
gives_all WriteFault = false
gives_all OutOfMemory = false

-- words that ask for nothing do nothing
abbrev pub Ended : Option Request → Call → Outcome → Type 0
Ended None c o = (o ≡ Usage) × (c.taken_now ≡ c.taken_before)
Ended (Some (OnDeck k)) c o = Ends k c o
Ended (Some (Make n)) c o =
    Summarises (deck_of n) c.taken_before c.taken_now c.out_faults_before c.out_faults_now o
