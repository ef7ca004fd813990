-- What the answer to a deck's source says of the deck.
use Rattle.std.proofs.Common.{◌≡◌, ◌≤◌, ◌<◌, ◌^◌, ◌⊎◌, ℕ, Bool, true, false, cond, List, length, [], ◌∷◌, ◌++◌, Option, Some, Result, Ok, Err, inl, inr, ap, refl, sym, ◌∙◌, subst, arith, length-append}
use Rattle.std.specs.Prelude.{IsOkAnd}
use Rattle.tree.specs.Limits.{deck_bytes90}
use Rattle.tree.specs.Plain.{Program}
use Rattle.tree.specs.View.{program_of, program_of_90}
use Rattle.tree.specs.declared.programs.Program77.{Program77}
use Rattle.tree.specs.declared.programs.Program90.{Program90}
use Rattle.tree.specs.declared.refusals.Refusal.{Refusal}
use Rattle.tree.specs.declared.refusals.Refused.{Refused}
use Rattle.tree.specs.declared.refusals.Refused.TheVariants as refused
use Rattle.streams.specs.Causes.{Rose}
use Rattle.streams.specs.Streams.{Gives, GivesPart}
use Rattle.meaning.specs.Deck.{source_of, input_of, has_data, data_line77, data_line90, text_of_lines, lines_before, whole_lines, is_line}
use Rattle.meaning.proofs.decks.Parts.{joined_lines}
use Rattle.f90_grammar.specs.PrintedText.{printed90}
use Rattle.meaning.specs.decks.Parts.{is_there, bytes_in}
use mathlib.Core.Path.{ap₂}
use Rattle.meaning.specs.Run.{State, run}
use Rattle.meaning.specs.Sequential.{ending}
use Rattle.meaning.specs.Dialect.{fortran77}
use Rattle.tree.specs.declared.width.Width.{Width}
use Rattle.meaning.specs.declared.End.{End}
use Rattle.meaning.specs.declared.End.TheVariants as end
use Rattle.f77_grammar.specs.Reading77.{Reads77, Refused77}
use Rattle.f90_grammar.specs.Refusals.{Reads90, Refused90}
use Rattle.tool.specs.commands.Command.{no_options}
use Rattle.tool.specs.declared.commands.commands.Options.{Options}
use Rattle.tool.specs.declared.commands.commands.Command.{Command}
use Rattle.tool.specs.declared.commands.commands.Command.TheVariants.{Vectorise, Graph, Run77, Run90}
use Rattle.tool.specs.declared.report.outcome.Outcome.{Outcome}
use Rattle.tool.specs.declared.report.outcome.Outcome.TheVariants.{Done, Usage, Refused as Denied, Faulted, StepLimit, ReadFault, WriteFault, OutOfMemory}
use Rattle.listing.specs.programs.Listing.{IsListingText}
use Rattle.tool.specs.Decks.{Reads, IsRefused, IsReadAs, RefusedDeck77, RefusedDeck90, most_bytes}
use Rattle.tool.specs.Decks.RefusedDeck77.{TooLong as TooLong77, OfSource as OfSource77}
use Rattle.tool.specs.Decks.RefusedDeck90.{TooLong as TooLong90, OfSource as OfSource90}
use Rattle.tool.specs.Endings.{HasText, ending_of}
use Rattle.tool.specs.Translation.{data_part, IsTranslationText, IsTranslationOf, IsUntranslated}
use Rattle.tool.specs.Unread.{outcome_for}
use Rattle.tool.specs.Running.{IsRun, options_in, dialect_of, data_line_of, input_for, run_of, run_text, text_of_run}
use Rattle.tool.specs.Works.{Writing, Works, WithoutMemory, Comes, ComesOrStops, ComesFor}

-- ---- a source is no longer than its deck

before_is_shorter : (mark : List ℕ) (ls : List (List ℕ)) → length (text_of_lines (lines_before mark ls)) ≤ length (text_of_lines ls)
before_is_shorter mark [] = omega arith
before_is_shorter mark (l ∷ ls) = by (is_line mark l) (before_is_shorter mark ls)
  where
    by : (b : Bool) → length (text_of_lines (lines_before mark ls)) ≤ length (text_of_lines ls) → length (text_of_lines (cond b [] (l ∷ lines_before mark ls))) ≤ length (l ++ text_of_lines ls)
    by true h = omega arith
    by false h = omega (arith, h, length-append l (text_of_lines (lines_before mark ls)), length-append l (text_of_lines ls))

source_is_shorter : (mark deck : List ℕ) → length (source_of mark deck) ≤ length deck
source_is_shorter mark deck = subst (λ (t : List ℕ). length (source_of mark deck) ≤ length t) (joined_lines deck) (before_is_shorter mark (whole_lines deck))

pub source_within : (deck source : List ℕ) → length deck ≤ deck_bytes90 → source ≡ source_of data_line90 deck → length source ≤ deck_bytes90
source_within deck source within at = omega (arith, within, ap length at, source_is_shorter data_line90 deck)

pub source_fits : (deck source : List ℕ) → length deck ≤ deck_bytes90 → source ≡ source_of data_line90 deck → length source < 2 ^ 32
source_fits deck source within at = omega (arith, source_within deck source within at)

-- ---- the source of a deck, by command

abbrev Tree : Command → Type 0
Tree (Vectorise w) = Program77
Tree (Graph w) = Program77
Tree (Run77 options) = Program77
Tree (Run90 options) = Program90

abbrev program_in : (c : Command) → Tree c → Program
program_in (Vectorise w) t = program_of t
program_in (Graph w) t = program_of t
program_in (Run77 options) t = program_of t
program_in (Run90 options) t = program_of_90 t

abbrev ReadsSource : Command → List ℕ → Program → Type 0
ReadsSource (Vectorise w) = Reads77 (fortran77 w)
ReadsSource (Graph w) = Reads77 (fortran77 w)
ReadsSource (Run77 options) = Reads77 (fortran77 options.width)
ReadsSource (Run90 options) = Reads90

abbrev RefusesSource : Command → List ℕ → Refusal → Type 0
RefusesSource (Vectorise w) = Refused77 (fortran77 w)
RefusesSource (Graph w) = Refused77 (fortran77 w)
RefusesSource (Run77 options) = Refused77 (fortran77 options.width)
RefusesSource (Run90 options) = Refused90

abbrev source_for : Command → List ℕ → List ℕ
source_for c deck = source_of (data_line_of c) deck

deck_read : (c : Command) (deck : List ℕ) (p : Program) → length deck ≤ most_bytes c → ReadsSource c (source_for c deck) p → Reads c deck p
deck_read (Vectorise w) deck p within h = record { within = within; source = h }
deck_read (Graph w) deck p within h = record { within = within; source = h }
deck_read (Run77 options) deck p within h = record { within = within; source = h }
deck_read (Run90 options) deck p within h = record { within = within; source = h }

source_read : (c : Command) (deck : List ℕ) (p : Program) → Reads c deck p → ReadsSource c (source_for c deck) p
source_read (Vectorise w) deck p h = h.source
source_read (Graph w) deck p h = h.source
source_read (Run77 options) deck p h = h.source
source_read (Run90 options) deck p h = h.source

deck_refused : (c : Command) (deck : List ℕ) (r : Refusal) → length deck ≤ most_bytes c → RefusesSource c (source_for c deck) r → IsRefused c deck r
deck_refused (Vectorise w) deck r within h = OfSource77 r within h
deck_refused (Graph w) deck r within h = OfSource77 r within h
deck_refused (Run77 options) deck r within h = OfSource77 r within h
deck_refused (Run90 options) deck r within h = OfSource90 r within h

not_both : (n m : ℕ) → n ≤ m → m < n → ⊥
not_both n m a b = omega (arith, a, b)

abbrev IsUnrefused : Command → List ℕ → Type 0
IsUnrefused c deck = (r : Refusal) → RefusesSource c (source_for c deck) r → ⊥

not_refused77 : (o : Options) (deck : List ℕ) (r : Refusal) → length deck ≤ most_bytes (Run77 o) → IsUnrefused (Run77 o) deck → RefusedDeck77 o.width deck r → ⊥
not_refused77 o deck _ within h (TooLong77 long) = not_both (length deck) (most_bytes (Run77 o)) within long
not_refused77 o deck r within h (OfSource77 _ _ refused) = h r refused

not_refused90 : (o : Options) (deck : List ℕ) (r : Refusal) → length deck ≤ most_bytes (Run90 o) → IsUnrefused (Run90 o) deck → RefusedDeck90 deck r → ⊥
not_refused90 o deck _ within h (TooLong90 long) = not_both (length deck) (most_bytes (Run90 o)) within long
not_refused90 o deck r within h (OfSource90 _ _ refused) = h r refused

not_refused : (c : Command) (deck : List ℕ) (r : Refusal) → length deck ≤ most_bytes c → IsUnrefused c deck → IsRefused c deck r → ⊥
not_refused (Vectorise w) deck r within h refused = not_refused77 (record no_options { width = w }) deck r within h refused
not_refused (Graph w) deck r within h refused = not_refused77 (record no_options { width = w }) deck r within h refused
not_refused (Run77 options) deck r within h refused = not_refused77 options deck r within h refused
not_refused (Run90 options) deck r within h refused = not_refused90 options deck r within h refused

-- ---- the answer to a source

abbrev OnlyReads : (c : Command) → List ℕ → Result (Tree c) Refused → Type 0
OnlyReads c source o = (p : Program) → ReadsSource c source p → IsOkAnd o (λ read. program_in c read ≡ p) ⊎ (o ≡ Err refused.Memory)

abbrev OnlyRefuses : (c : Command) → List ℕ → Result (Tree c) Refused → Type 0
OnlyRefuses c source o = (r : Refusal) → RefusesSource c source r → (o ≡ Err (refused.Refusal r)) ⊎ (o ≡ Err refused.Memory)

ok_only : (c : Command) (source : List ℕ) (o : Result (Tree c) Refused) (t : Tree c) → o ≡ Ok t → OnlyReads c source o → (q : Program) → ReadsSource c source q → q ≡ program_in c t
ok_only c source o t e only q reads = by (subst (OnlyReads c source) e only q reads)
  where
    by : (program_in c t ≡ q) ⊎ (◌≡◌ {A = Result (Tree c) Refused} (Ok t) (Err refused.Memory)) → q ≡ program_in c t
    by (inl same) = sym same
    by (inr other) = absurd (cc)

ok_not_refused : (c : Command) (source : List ℕ) (o : Result (Tree c) Refused) (t : Tree c) → o ≡ Ok t → OnlyRefuses c source o → (r : Refusal) → RefusesSource c source r → ⊥
ok_not_refused c source o t e only r h = by (subst (OnlyRefuses c source) e only r h)
  where
    by : (◌≡◌ {A = Result (Tree c) Refused} (Ok t) (Err (refused.Refusal r))) ⊎ (◌≡◌ {A = Result (Tree c) Refused} (Ok t) (Err refused.Memory)) → ⊥
    by (inl other) = cc
    by (inr other) = cc

-- what was read is the program that the deck is read as
pub only_program : (c : Command) (deck source : List ℕ) (o : Result (Tree c) Refused) (t : Tree c) → source ≡ source_for c deck → o ≡ Ok t → OnlyReads c source o → (q : Program) → Reads c deck q → q ≡ program_in c t
only_program c deck source o t at e only q reads = ok_only c source o t e only q (subst (λ (s : List ℕ). ReadsSource c s q) (sym at) (source_read c deck q reads))

read_as : (c : Command) (deck source : List ℕ) (o : Result (Tree c) Refused) (t : Tree c) → length deck ≤ most_bytes c → source ≡ source_for c deck → o ≡ Ok t
    → ReadsSource c source (program_in c t) → OnlyReads c source o → OnlyRefuses c source o → IsReadAs c deck (program_in c t)
read_as c deck source o t within at e reads only_reads only_refuses = record {
  reads = deck_read c deck (program_in c t) within (subst (λ (s : List ℕ). ReadsSource c s (program_in c t)) at reads);
  only = λ q other. ok_only c (source_for c deck) o t e (subst (λ (s : List ℕ). OnlyReads c s o) at only_reads) q (source_read c deck q other);
  accepted = λ r. not_refused c deck r within (ok_not_refused c (source_for c deck) o t e (subst (λ (s : List ℕ). OnlyRefuses c s o) at only_refuses));
}

refused_unread : (c : Command) (source : List ℕ) (o : Result (Tree c) Refused) (r : Refusal) → o ≡ Err (refused.Refusal r) → OnlyReads c source o → (p : Program) → ReadsSource c source p → ⊥
refused_unread c source o r e only p reads = by (subst (OnlyReads c source) e only p reads)
  where
    by : ⊥ ⊎ (◌≡◌ {A = Result (Tree c) Refused} (Err (refused.Refusal r)) (Err refused.Memory)) → ⊥
    by (inl none) = none
    by (inr other) = cc

without_memory : (c : Command) (deck : List ℕ) (w : Writing) → w.now ≡ w.before → WithoutMemory c deck w
without_memory (Vectorise v) deck w same = same
without_memory (Graph v) deck w same = same
without_memory (Run77 options) deck w same = same
without_memory (Run90 options) deck w same = inl same

-- a deck whose source isn't read
pub not_worked : (c : Command) (deck source : List ℕ) (w : Writing) (o : Result (Tree c) Refused) (x : Refused) → length deck ≤ most_bytes c → source ≡ source_for c deck → o ≡ Err x
    → ((r : Refusal) → o ≡ Err (refused.Refusal r) → RefusesSource c source r) → OnlyReads c source o → w.now ≡ w.before
    → Works c deck w (outcome_for x)
not_worked c deck source w o (refused.Refusal r) within at e refuses only same = (
  record {
    refused = deck_refused c deck r within (subst (λ (s : List ℕ). RefusesSource c s r) at (refuses r e));
    unread = λ p reads. refused_unread c source o r e only p (subst (λ (s : List ℕ). ReadsSource c s p) (sym at) (source_read c deck p reads));
  },
  same,
)
not_worked c deck source w o refused.Memory within at e refuses only same = without_memory c deck w same

-- ---- its machine is run

abbrev run_on : Command → List ℕ → Program → State
run_on c input p = run (dialect_of c) (options_in c).steps p input

abbrev RunComes : Command → List ℕ → Program → Writing → Outcome → Type 0
RunComes c input p w x = Comes (ending (run_on c input p)) (run_text (options_in c) p (run_on c input p)) w x

abbrev RunComesOrStops : Command → List ℕ → Program → Writing → Outcome → Type 0
RunComesOrStops c input p w x = ComesOrStops (ending (run_on c input p)) (run_text (options_in c) p (run_on c input p)) w x

pub run_ends : (c : Command) (deck : List ℕ) (p : Program) → IsRun c → ending (run_of c deck p) ≡ ending_of c deck p
run_ends (Vectorise w) deck p is = absurd is
run_ends (Graph w) deck p is = absurd is
run_ends (Run77 options) deck p is = refl
run_ends (Run90 options) deck p is = refl

has_run_text : (c : Command) (deck : List ℕ) (p : Program) → IsRun c → HasText c deck p (text_of_run c deck p)
has_run_text (Vectorise w) deck p is = absurd is
has_run_text (Graph w) deck p is = absurd is
has_run_text (Run77 options) deck p is = refl
has_run_text (Run90 options) deck p is = refl

run_for : (c : Command) (deck input : List ℕ) (w : Writing) (p : Program) (x : Outcome) → IsRun c → IsReadAs c deck p → input ≡ input_for c deck
    → RunComes c input p w x → ComesFor c deck w x
run_for c deck input w p x is read at h = record {
  program = p;
  read = read;
  text = text_of_run c deck p;
  has_text = has_run_text c deck p is;
  comes =
      subst (λ (e : Option End). Comes e (text_of_run c deck p) w x) (run_ends c deck p is)
      (subst (λ (t : List ℕ). RunComes c t p w x) at h);
}

run_works : (c : Command) (deck input : List ℕ) (w : Writing) (p : Program) (x : Outcome) → IsRun c → IsReadAs c deck p → input ≡ input_for c deck
    → RunComes c input p w x → Works c deck w x
run_works c deck input w p Done is read at h = run_for c deck input w p Done is read at h
run_works c deck input w p Usage is read at h = absurd h
run_works c deck input w p (Denied r) is read at h = absurd h
run_works c deck input w p (Faulted fault line) is read at h = run_for c deck input w p (Faulted fault line) is read at h
run_works c deck input w p StepLimit is read at h = run_for c deck input w p StepLimit is read at h
run_works c deck input w p ReadFault is read at h = absurd h
run_works c deck input w p WriteFault is read at h = run_for c deck input w p WriteFault is read at h
run_works c deck input w p OutOfMemory is read at h = absurd h

-- a run of Fortran 90, which may have stopped where there was no memory
run_stops : (o : Options) (deck input : List ℕ) (w : Writing) (p : Program) (x : Outcome) → IsReadAs (Run90 o) deck p → input ≡ input_for (Run90 o) deck
    → RunComesOrStops (Run90 o) input p w x → Works (Run90 o) deck w x
run_stops o deck input w p Done read at h = run_works (Run90 o) deck input w p Done tt read at h
run_stops o deck input w p Usage read at h = absurd h
run_stops o deck input w p (Denied r) read at h = absurd h
run_stops o deck input w p (Faulted fault line) read at h = run_works (Run90 o) deck input w p (Faulted fault line) tt read at h
run_stops o deck input w p StepLimit read at h = run_works (Run90 o) deck input w p StepLimit tt read at h
run_stops o deck input w p ReadFault read at h = absurd h
run_stops o deck input w p WriteFault read at h = run_works (Run90 o) deck input w p WriteFault tt read at h
run_stops o deck input w p OutOfMemory read at h = inr (record {
  program = p;
  read = read;
  text = text_of_run (Run90 o) deck p;
  has_text = refl;
  front = subst (λ (t : List ℕ). RunComesOrStops (Run90 o) t p w OutOfMemory) at h;
})

pub run_comes77 : (o : Options) (deck source input : List ℕ) (w : Writing) (a : Result Program77 Refused) (t : Program77) (x : Outcome) → length deck ≤ most_bytes (Run77 o)
    → source ≡ source_for (Run77 o) deck → input ≡ input_for (Run77 o) deck → a ≡ Ok t → ReadsSource (Run77 o) source (program_of t) → OnlyReads (Run77 o) source a → OnlyRefuses (Run77 o) source a
    → RunComes (Run77 o) input (program_of t) w x → Works (Run77 o) deck w x
run_comes77 o deck source input w a t x within at after e reads only_reads only_refuses h =
    run_works (Run77 o) deck input w (program_of t) x tt (read_as (Run77 o) deck source a t within at e reads only_reads only_refuses) after h

pub run_comes90 : (o : Options) (deck source input : List ℕ) (w : Writing) (a : Result Program90 Refused) (t : Program90) (x : Outcome) → length deck ≤ most_bytes (Run90 o)
    → source ≡ source_for (Run90 o) deck → input ≡ input_for (Run90 o) deck → a ≡ Ok t → ReadsSource (Run90 o) source (program_of_90 t) → OnlyReads (Run90 o) source a → OnlyRefuses (Run90 o) source a
    → RunComesOrStops (Run90 o) input (program_of_90 t) w x → Works (Run90 o) deck w x
run_comes90 o deck source input w a t x within at after e reads only_reads only_refuses h =
    run_stops o deck input w (program_of_90 t) x (read_as (Run90 o) deck source a t within at e reads only_reads only_refuses) after h

-- ---- a text is written that needs no run

-- the deck was read as a program of which the command writes this text, and nothing else is left to do
pub record IsTextFor (c : Command) (deck text : List ℕ) : Type 0 where
  pub program : Program
  pub read : IsReadAs c deck program
  pub ends : ending_of c deck program ≡ Some end.Done
  pub has_text : HasText c deck program text

-- what is translated of it is a translation of the deck
pub translated : (width : Width) (deck source : List ℕ) (input : Option (List ℕ)) (o : Result Program77 Refused) (p : Program77) (text : List ℕ) → length deck ≤ most_bytes (Vectorise width)
    → source ≡ source_for (Vectorise width) deck → bytes_in input ≡ input_of data_line77 deck → is_there input ≡ has_data data_line77 deck
    → o ≡ Ok p → ReadsSource (Vectorise width) source (program_of p) → OnlyReads (Vectorise width) source o → OnlyRefuses (Vectorise width) source o
    → IsTranslationText (program_of p) (is_there input) (bytes_in input) text
    → IsTranslationOf width deck text
translated width deck source input o p text within at after there e reads only_reads only_refuses written = record {
  program = program_of p;
  read = read_as (Vectorise width) deck source o p within at e reads only_reads only_refuses;
  written = record {
    notes = written.notes;
    translated = written.translated;
    is = written.is;
    printed = written.printed ∙ ap₂ (λ b t. printed90 written.translated written.notes ++ data_part b t) there after;
  };
}

pub not_translated : (width : Width) (deck source : List ℕ) (o : Result Program77 Refused) (x : Refused) → length deck ≤ most_bytes (Vectorise width) → source ≡ source_for (Vectorise width) deck → o ≡ Err x
    → ((r : Refusal) → o ≡ Err (refused.Refusal r) → RefusesSource (Vectorise width) source r) → OnlyReads (Vectorise width) source o → IsUntranslated width deck (outcome_for x)
not_translated width deck source o (refused.Refusal r) within at e refuses only = record {
  refused = deck_refused (Vectorise width) deck r within (subst (λ (s : List ℕ). RefusesSource (Vectorise width) s r) at (refuses r e));
  unread = λ p reads. refused_unread (Vectorise width) source o r e only p (subst (λ (s : List ℕ). ReadsSource (Vectorise width) s p) (sym at) (source_read (Vectorise width) deck p reads));
}
not_translated width deck source o refused.Memory within at e refuses only = tt

pub untranslated_works : (width : Width) (deck : List ℕ) (taken : Option (List ℕ)) (f f' : ℕ) (o : Outcome) → IsUntranslated width deck o
    → Works (Vectorise width) deck (record { before = taken; now = taken; faults_before = f; faults_now = f' }) o
untranslated_works width deck taken f f' Done h = absurd h
untranslated_works width deck taken f f' Usage h = h
untranslated_works width deck taken f f' (Denied r) h = (h, refl)
untranslated_works width deck taken f f' (Faulted fault line) h = absurd h
untranslated_works width deck taken f f' StepLimit h = absurd h
untranslated_works width deck taken f f' ReadFault h = h
untranslated_works width deck taken f f' WriteFault h = absurd h
untranslated_works width deck taken f f' OutOfMemory h = refl

pub translation_text : (width : Width) (deck text items : List ℕ) → IsTranslationOf width deck items → text ≡ items → IsTextFor (Vectorise width) deck text
translation_text width deck text items h same = record {
  program = h.program;
  read = h.read;
  ends = refl;
  has_text = subst (IsTranslationText h.program (has_data data_line77 deck) (input_of data_line77 deck)) (sym same) h.written;
}

pub listed : (width : Width) (deck source : List ℕ) (o : Result Program77 Refused) (p : Program77) (text items : List ℕ) → length deck ≤ most_bytes (Graph width)
    → source ≡ source_for (Graph width) deck
    → o ≡ Ok p → ReadsSource (Graph width) source (program_of p) → OnlyReads (Graph width) source o → OnlyRefuses (Graph width) source o
    → IsListingText (program_of p) items → text ≡ items
    → IsTextFor (Graph width) deck text
listed width deck source o p text items within at e reads only_reads only_refuses listing same = record {
  program = program_of p;
  read = read_as (Graph width) deck source o p within at e reads only_reads only_refuses;
  ends = refl;
  has_text = subst (IsListingText (program_of p)) (sym same) listing;
}

pub text_given : (c : Command) (deck text : List ℕ) (w : Writing) → IsTextFor c deck text → Gives w.before text w.now → ComesFor c deck w Done
text_given c deck text w h given = record {
  program = h.program;
  read = h.read;
  text = text;
  has_text = h.has_text;
  comes = record { ending_is = h.ends; all = given };
}

pub text_cut : (c : Command) (deck text : List ℕ) (w : Writing) → IsTextFor c deck text → Rose w.faults_before w.faults_now → GivesPart w.before text w.now → ComesFor c deck w WriteFault
text_cut c deck text w h fault given = record {
  program = h.program;
  read = h.read;
  text = text;
  has_text = h.has_text;
  comes = record { fault = fault; front = given };
}
