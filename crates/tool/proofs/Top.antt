-- What a status says of the call, by how the call ended.
use Rattle.std.proofs.Common.{◌≡◌, ℕ, false, List, [], ◌∷◌, Option, None, Some, Result, Ok, Err, append-nil, refl, ap, sym, ◌∙◌, subst, arith, inl, inr}
use Rattle.std.specs.Prelude.{String, IfSome, OnOk, OnErr}
use Rattle.std.specs.declared.alloc.Global.{Global}
use Rattle.std.specs.Io.KnownBytes.{IsAtEnd}
use Rattle.tree.specs.declared.ops.Fault.{Fault as Kind}
use Rattle.tree.specs.declared.refusals.Refusal.{Refusal}
use Rattle.tree.specs.Plain.{Program}
use Rattle.streams.specs.Causes.{Rose}
use Rattle.streams.specs.Streams.{Gives, GivesPart}
use Rattle.meaning.specs.Sequential.{ending}
use Rattle.meaning.specs.declared.End.{End}
use Rattle.meaning.specs.declared.End.TheVariants as end
use Rattle.tool.specs.commands.Command.{texts, request_of}
use Rattle.tool.specs.declared.commands.commands.Command.{Command}
use Rattle.tool.specs.declared.commands.commands.Command.TheVariants.{Vectorise, Graph, Run77, Run90}
use Rattle.tool.specs.declared.commands.commands.Request.{Request}
use Rattle.tool.specs.declared.commands.commands.Request.TheVariants.{OnDeck, Make}
use Rattle.tool.specs.declared.report.outcome.Outcome.{Outcome}
use Rattle.tool.specs.declared.report.outcome.Outcome.TheVariants.{Done, Usage, Refused, Faulted, StepLimit, ReadFault, WriteFault, OutOfMemory}
use Rattle.tool.specs.report.Notes.{status_of, note_of}
use Rattle.tool.specs.Answers.{IsOneOf, IsTrueOf, NoteFor, HasFault}
use Rattle.tool.specs.Decks.{Reads, IsRefused, IsReadAs, IsRefusedFor, most_bytes}
use Rattle.tool.specs.Endings.{Call, Ends, Ended, EndsAt, HasText, IsReadOrPassed, IsReadFor, IsRefusedAfter, GivesAll, GivesFront, GivesLittle, ending_of, writes_early}
use Rattle.tool.specs.Given.{GivesWhere, GivesPartWhere}
use Rattle.tool.specs.Listings.{IsListedBeside, IsListingOf}
use Rattle.tool.specs.Marked.{IsMarked}
use Rattle.tool.specs.Printed.{IsPrinted}
use Rattle.tool.specs.Translates.{Translates}
use Rattle.tool.specs.Vectorises.{VectorisesDeck}
use Rattle.generator.specs.Decks.{deck_of}
use Rattle.tool.specs.Making.{Summarises}
use Rattle.tool.specs.Running.{IsRun, GivesRun, GivesFaultedRun, GivesRunPart, GivesAtMostPart, IsExceeded, options_in, dialect_of, input_for, run_of}
use Rattle.tool.proofs.Headline.{Holds, holds, listing_holds}
use Rattle.tool.proofs.Limits.{exceeded, limited}
use Rattle.tool.proofs.Readings.{run_ends}
use Rattle.tool.proofs.Statuses as tells
use Rattle.tree.specs.declared.width.Width.{Width}

-- ---- words

map_some : {P Q : List ℕ → Type 0} (o : Option (List ℕ)) → ((x : List ℕ) → P x → Q x) → IfSome o P → IfSome o Q
map_some None f h = tt
map_some (Some x) f h = f x h

always : {P : List ℕ → Type 0} (o : Option (List ℕ)) → ((x : List ℕ) → P x) → IfSome o P
always None f = tt
always (Some x) f = f x

-- of words that are the command
pub for_command : (k : Option Request) (a : Command) (c : Call) (o : Outcome) → k ≡ Some (OnDeck a) → Ended k c o → Ends a c o
for_command k a c o e h = subst (λ (k : Option Request). Ended k c o) e h

-- of words that are `make`
pub for_making : (k : Option Request) (n : ℕ) (c : Call) (o : Outcome) → k ≡ Some (Make n) → Ended k c o
    → Summarises (deck_of n) c.taken_before c.taken_now c.out_faults_before c.out_faults_now o
for_making k n c o e h = subst (λ (k : Option Request). Ended k c o) e h

-- the same of equal words
pub for_words : (ws ws' : List (String Global)) (c : Call) (o : Outcome) → ws ≡ ws' → Ended (request_of (texts ws)) c o → Ended (request_of (texts ws')) c o
for_words ws ws' c o e h = subst (λ (ws : List (String Global)). Ended (request_of (texts ws)) c o) e h

pub same_words_late : (ws ws' : List (String Global)) → ws ≡ ws' → writes_early (request_of (texts ws')) ≡ false → writes_early (request_of (texts ws)) ≡ false
same_words_late ws ws' e h = subst (λ (ws : List (String Global)). writes_early (request_of (texts ws)) ≡ false) (sym e) h

at_outcome : (a : Command) (c : Call) (o o' : Outcome) → o ≡ o' → Ends a c o → Ends a c o'
at_outcome a c o o' e h = subst (Ends a c) e h

-- ---- usage

pub usage : (k : Option Request) (c : Call) (o : Outcome) (s : ℕ) → s ≡ status_of o → Ended k c o → s ≡ 1 → k ≡ None
usage None c o s e h q = refl
usage (Some (OnDeck a)) c o s e h q = absurd (at_outcome a c o Usage (tells.is_usage o s e q) h)
usage (Some (Make n)) c o s e h q = absurd (subst (λ (o : Outcome). Ended (Some (Make n)) c o) (tells.is_usage o s e q) h)

pub usage_only : (k : Option Request) (c : Call) (o : Outcome) (s : ℕ) → s ≡ status_of o → Ended k c o → k ≡ None → s ≡ 1
usage_only None c o s e h q = e ∙ ap status_of h.0
usage_only (Some a) c o s e h q = absurd (cc)

-- ---- reading

-- the status is none of these
none_of : (s n : ℕ) → s ≡ n → (n ≡ 0 → ⊥) → (n ≡ 3 → ⊥) → (n ≡ 4 → ⊥) → (n ≡ 6 → ⊥) → IsOneOf (0 ∷ 3 ∷ 4 ∷ 6 ∷ []) s → ⊥
none_of s n e a b c d (inl q) = a (sym e ∙ q)
none_of s n e a b c d (inr (inl q)) = b (sym e ∙ q)
none_of s n e a b c d (inr (inr (inl q))) = c (sym e ∙ q)
none_of s n e a b c d (inr (inr (inr q))) = d (sym e ∙ q)

pub whole : (k : Command) (c : Call) (o : Outcome) (s : ℕ) → s ≡ status_of o → Ends k c o → IsOneOf (0 ∷ 3 ∷ 4 ∷ 6 ∷ []) s → IsAtEnd c.left_now
whole k c Done s e h m = h.0
whole k c Usage s e h m = absurd h
whole k c (Refused r) s e h m = absurd (none_of s 2 e (λ q. omega (arith, q)) (λ q. omega (arith, q)) (λ q. omega (arith, q)) (λ q. omega (arith, q)) m)
whole k c (Faulted fault line) s e h m = h.1.0
whole k c StepLimit s e h m = h.1.0
whole k c ReadFault s e h m = absurd (none_of s 5 e (λ q. omega (arith, q)) (λ q. omega (arith, q)) (λ q. omega (arith, q)) (λ q. omega (arith, q)) m)
whole k c WriteFault s e h m = h.1
whole k c OutOfMemory s e h m = absurd (none_of s 7 e (λ q. omega (arith, q)) (λ q. omega (arith, q)) (λ q. omega (arith, q)) (λ q. omega (arith, q)) m)

-- a status that tells of another outcome than usage comes with a request
asked : (k : Option Request) (c : Call) (o o' : Outcome) → Ended k c o → o ≡ o' → (status_of o' ≡ 1 → ⊥) → (a : Request) × (k ≡ Some a) × Ended (Some a) c o'
asked None c o o' h e n = absurd (n (ap status_of (sym e ∙ h.0)))
asked (Some a) c o o' h e n = (a, refl, subst (λ (o : Outcome). Ended (Some a) c o) e h)

pub whole_refused : (k : Command) (c : Call) (o : Outcome) (s : ℕ) → s ≡ status_of o → Ends k c o → s ≡ 2 → IsReadOrPassed (most_bytes k) c.left_before c.left_now
whole_refused k c o s e h q =
    let r = tells.is_refused o s e q in
    let g : Ends k c (Refused r.0) = at_outcome k c o (Refused r.0) r.1 h in
    g.1.0

deck_failed : (a : Request) (c : Call) → Ended (Some a) c ReadFault → Rose c.deck_faults_before c.deck_faults_now
deck_failed (OnDeck k) c h = h.0
deck_failed (Make n) c h = absurd h

pub read_fault : (k : Option Request) (c : Call) (o : Outcome) (s : ℕ) → s ≡ status_of o → Ended k c o → s ≡ 5 → Rose c.deck_faults_before c.deck_faults_now
read_fault k c o s e h q =
    let g = asked k c o ReadFault h (tells.is_read_fault o s e q) (λ z. omega (arith, z)) in
    deck_failed g.0 c g.2

sink_failed : (a : Request) (c : Call) → Ended (Some a) c WriteFault → Rose c.out_faults_before c.out_faults_now
sink_failed (OnDeck k) c h = h.0
sink_failed (Make n) c h = h.0

pub write_fault : (k : Option Request) (c : Call) (o : Outcome) (s : ℕ) → s ≡ status_of o → Ended k c o → s ≡ 6 → Rose c.out_faults_before c.out_faults_now
write_fault k c o s e h q =
    let g = asked k c o WriteFault h (tells.is_write_fault o s e q) (λ z. omega (arith, z)) in
    sink_failed g.0 c g.2

-- ---- refusals

with_reading : (k : Command) (c : Call) (r : Refusal) → IfSome c.left_before (IsRefusedFor k r) → IsReadFor (most_bytes k) c.left_before c.left_now r
    → IfSome c.left_before (IsRefusedAfter k c.left_before c.left_now)
with_reading k c r h reading = map_some c.left_before (λ deck for. (r, for.refused, reading)) h

pub refused : (k : Command) (c : Call) (o : Outcome) (s : ℕ) → s ≡ status_of o → Ends k c o → s ≡ 2
    → IfSome c.left_before (IsRefusedAfter k c.left_before c.left_now)
refused k c o s e h q =
    let r = tells.is_refused o s e q in
    let g : Ends k c (Refused r.0) = at_outcome k c o (Refused r.0) r.1 h in
    with_reading k c r.0 g.0 g.1

pub accepted : (k : Command) (c : Call) (o : Outcome) (s : ℕ) → s ≡ status_of o → Ends k c o → IfSome c.left_before (λ deck. (p : Program) → Reads k deck p → s ≡ 2 → ⊥)
accepted k c Done s e h = always c.left_before (λ deck p reads q. omega (arith, e, q))
accepted k c Usage s e h = absurd h
accepted k c (Refused r) s e h = map_some c.left_before (λ deck for p reads q. for.unread p reads) h.0
accepted k c (Faulted fault line) s e h = always c.left_before (λ deck p reads q. omega (arith, e, q))
accepted k c StepLimit s e h = always c.left_before (λ deck p reads q. omega (arith, e, q))
accepted k c ReadFault s e h = always c.left_before (λ deck p reads q. omega (arith, e, q))
accepted k c WriteFault s e h = always c.left_before (λ deck p reads q. omega (arith, e, q))
accepted k c OutOfMemory s e h = always c.left_before (λ deck p reads q. omega (arith, e, q))

abbrev IsNeverDone : Command → Call → ℕ → List ℕ → Type 0
IsNeverDone k c s deck = (r : Refusal) → IsRefused k deck r → (Rose c.deck_faults_before c.deck_faults_now → ⊥) → IsOneOf (2 ∷ 7 ∷ []) s

pub never_done : (k : Command) (c : Call) (o : Outcome) (s : ℕ) → s ≡ status_of o → Ends k c o → IfSome c.left_before (IsNeverDone k c s)
never_done k c Done s e h = map_some c.left_before (λ deck (g : GivesAll k end.Done c.taken_before c.taken_now deck) r refused still. absurd (g.read.accepted r refused)) h.1
never_done k c Usage s e h = absurd h
never_done k c (Refused r) s e h = always c.left_before (λ deck r refused still. inl e)
never_done k c (Faulted fault line) s e h =
    map_some c.left_before (λ deck (g : GivesAll k (end.Fault fault line) c.taken_before c.taken_now deck) r refused still. absurd (g.read.accepted r refused)) h.1.1
never_done k c StepLimit s e h = map_some c.left_before (λ deck (g : GivesAll k end.StepLimit c.taken_before c.taken_now deck) r refused still. absurd (g.read.accepted r refused)) h.1.1
never_done k c ReadFault s e h = always c.left_before (λ deck r refused still. absurd (still h.0))
never_done k c WriteFault s e h = map_some c.left_before (λ deck (g : GivesFront k c.taken_before c.taken_now deck) r refused still. absurd (g.read.accepted r refused)) h.2
never_done k c OutOfMemory s e h = always c.left_before (λ deck r refused still. inr e)

-- ---- what was given

-- what is written for a translation, and for a listing
written : (width : Width) (deck text : List ℕ) (p : Program) → IsReadAs (Vectorise width) deck p → HasText (Vectorise width) deck p text → Holds width deck text
written width deck text p read has = holds width deck text p read has

translation : (width : Width) (P : List ℕ → List ℕ → Type 0) → ((deck text : List ℕ) → Holds width deck text → P deck text) → (before now : Option (List ℕ)) (deck : List ℕ)
    → GivesAll (Vectorise width) end.Done before now deck → GivesWhere before now (P deck)
translation width P f before now deck g = (g.text, f deck g.text (written width deck g.text g.program g.read g.has_text), g.given)

abbrev AllHold : (width : Width) → List ℕ → List ℕ → Type 0
AllHold width deck text =
    Translates width deck text × IsListedBeside width deck text × IsMarked width deck text × IsPrinted width deck text
    × VectorisesDeck width deck text

all_hold : (width : Width) (deck text : List ℕ) → Holds width deck text → AllHold width deck text
all_hold width deck text h = (h.translates, h.listed, h.marked, h.printed, h.vectorised)

translation_part : (width : Width) (before now : Option (List ℕ)) (deck : List ℕ) → GivesFront (Vectorise width) before now deck → GivesPartWhere before now (AllHold width deck)
translation_part width before now deck g = (g.text, all_hold width deck g.text (written width deck g.text g.program g.read g.has_text), g.given)

listing_given : (width : Width) (before now : Option (List ℕ)) (deck : List ℕ) → GivesAll (Graph width) end.Done before now deck → GivesWhere before now (IsListingOf width deck)
listing_given width before now deck g = (g.text, listing_holds width deck g.text g.program g.read g.has_text, g.given)

listing_part : (width : Width) (before now : Option (List ℕ)) (deck : List ℕ) → GivesFront (Graph width) before now deck → GivesPartWhere before now (IsListingOf width deck)
listing_part width before now deck g = (g.text, listing_holds width deck g.text g.program g.read g.has_text, g.given)

run_given : (k : Command) → IsRun k → (e : End) (before now : Option (List ℕ)) (deck : List ℕ) → GivesAll k e before now deck → GivesRun k e before now deck
run_given (Vectorise w) run e before now deck g = absurd run
run_given (Graph w) run e before now deck g = absurd run
run_given (Run77 options) run e before now deck g = record {
  program = g.program;
  read = g.read;
  ending = g.ending;
  text = subst (λ (t : List ℕ). Gives before t now) g.has_text g.given;
}
run_given (Run90 options) run e before now deck g = record {
  program = g.program;
  read = g.read;
  ending = g.ending;
  text = subst (λ (t : List ℕ). Gives before t now) g.has_text g.given;
}

run_part_given : (k : Command) → IsRun k → (before now : Option (List ℕ)) (deck : List ℕ) → GivesFront k before now deck → GivesRunPart k before now deck
run_part_given (Vectorise w) run before now deck g = absurd run
run_part_given (Graph w) run before now deck g = absurd run
run_part_given (Run77 options) run before now deck g = record {
  program = g.program;
  read = g.read;
  text = subst (λ (t : List ℕ). GivesPart before t now) g.has_text g.given;
}
run_part_given (Run90 options) run before now deck g = record {
  program = g.program;
  read = g.read;
  text = subst (λ (t : List ℕ). GivesPart before t now) g.has_text g.given;
}

given_done : (width : Width) (P : List ℕ → List ℕ → Type 0) → ((deck text : List ℕ) → Holds width deck text → P deck text) → (c : Call) (o : Outcome) (s : ℕ) → s ≡ status_of o → Ends (Vectorise width) c o → s ≡ 0
    → IfSome c.left_before (λ deck. GivesWhere c.taken_before c.taken_now (P deck))
given_done width P f c o s e h q = map_some c.left_before (translation width P f c.taken_before c.taken_now) (at_outcome (Vectorise width) c o Done (tells.is_done o s e q) h).1

pub vectorised : (width : Width) (c : Call) (o : Outcome) (s : ℕ) → s ≡ status_of o → Ends (Vectorise width) c o → s ≡ 0 → IfSome c.left_before (λ deck. GivesWhere c.taken_before c.taken_now (VectorisesDeck width deck))
vectorised width c o s e h q = given_done width (VectorisesDeck width) (λ deck text all. all.vectorised) c o s e h q

pub translated : (width : Width) (c : Call) (o : Outcome) (s : ℕ) → s ≡ status_of o → Ends (Vectorise width) c o → s ≡ 0 → IfSome c.left_before (λ deck. GivesWhere c.taken_before c.taken_now (Translates width deck))
translated width c o s e h q = given_done width (Translates width) (λ deck text all. all.translates) c o s e h q

pub listed_beside : (width : Width) (c : Call) (o : Outcome) (s : ℕ) → s ≡ status_of o → Ends (Vectorise width) c o → s ≡ 0 → IfSome c.left_before (λ deck. GivesWhere c.taken_before c.taken_now (IsListedBeside width deck))
listed_beside width c o s e h q = given_done width (IsListedBeside width) (λ deck text all. all.listed) c o s e h q

pub marked : (width : Width) (c : Call) (o : Outcome) (s : ℕ) → s ≡ status_of o → Ends (Vectorise width) c o → s ≡ 0 → IfSome c.left_before (λ deck. GivesWhere c.taken_before c.taken_now (IsMarked width deck))
marked width c o s e h q = given_done width (IsMarked width) (λ deck text all. all.marked) c o s e h q

pub printed : (width : Width) (c : Call) (o : Outcome) (s : ℕ) → s ≡ status_of o → Ends (Vectorise width) c o → s ≡ 0 → IfSome c.left_before (λ deck. GivesWhere c.taken_before c.taken_now (IsPrinted width deck))
printed width c o s e h q = given_done width (IsPrinted width) (λ deck text all. all.printed) c o s e h q

pub part : (width : Width) (c : Call) (o : Outcome) (s : ℕ) → s ≡ status_of o → Ends (Vectorise width) c o → s ≡ 6 → IfSome c.left_before (λ deck. GivesPartWhere c.taken_before c.taken_now (AllHold width deck))
part width c o s e h q = map_some c.left_before (translation_part width c.taken_before c.taken_now) (at_outcome (Vectorise width) c o WriteFault (tells.is_write_fault o s e q) h).2

pub listed : (width : Width) (c : Call) (o : Outcome) (s : ℕ) → s ≡ status_of o → Ends (Graph width) c o → s ≡ 0 → IfSome c.left_before (λ deck. GivesWhere c.taken_before c.taken_now (IsListingOf width deck))
listed width c o s e h q = map_some c.left_before (listing_given width c.taken_before c.taken_now) (at_outcome (Graph width) c o Done (tells.is_done o s e q) h).1

pub listed_part : (width : Width) (c : Call) (o : Outcome) (s : ℕ) → s ≡ status_of o → Ends (Graph width) c o → s ≡ 6 → IfSome c.left_before (λ deck. GivesPartWhere c.taken_before c.taken_now (IsListingOf width deck))
listed_part width c o s e h q = map_some c.left_before (listing_part width c.taken_before c.taken_now) (at_outcome (Graph width) c o WriteFault (tells.is_write_fault o s e q) h).2

pub ran : (k : Command) → IsRun k → (c : Call) (o : Outcome) (s : ℕ) → s ≡ status_of o → Ends k c o → s ≡ 0 → IfSome c.left_before (GivesRun k end.Done c.taken_before c.taken_now)
ran k run c o s e h q = map_some c.left_before (run_given k run end.Done c.taken_before c.taken_now) (at_outcome k c o Done (tells.is_done o s e q) h).1

pub run_part : (k : Command) → IsRun k → (c : Call) (o : Outcome) (s : ℕ) → s ≡ status_of o → Ends k c o → s ≡ 6 → IfSome c.left_before (GivesRunPart k c.taken_before c.taken_now)
run_part k run c o s e h q = map_some c.left_before (run_part_given k run c.taken_before c.taken_now) (at_outcome k c o WriteFault (tells.is_write_fault o s e q) h).2

pub faulted : (k : Command) (c : Call) (o : Outcome) (s : ℕ) → s ≡ status_of o → Ends k c o → s ≡ 3 → IsRun k × IfSome c.left_before (GivesFaultedRun k c.taken_before c.taken_now)
faulted k c o s e h q =
    let f = tells.is_faulted o s e q in
    let g : Ends k c (Faulted f.0 f.1) = at_outcome k c o (Faulted f.0 f.1) f.2 h in
    (g.0, map_some c.left_before (λ deck given. (f.0, f.1, run_given k g.0 (end.Fault f.0 f.1) c.taken_before c.taken_now deck given)) g.1.1)

-- the command of a run that was cut at the limit
cut_for : (k : Option Request) (a : Request) (c : Call) → k ≡ Some a → Ended (Some a) c StepLimit
    → (b : Command) × IsRun b × (k ≡ Some (OnDeck b)) × IfSome c.left_before (GivesRun b end.StepLimit c.taken_before c.taken_now)
cut_for k (OnDeck a) c q h = (a, h.0, q, map_some c.left_before (run_given a h.0 end.StepLimit c.taken_before c.taken_now) h.1.1)
cut_for k (Make n) c q h = absurd h

pub at_limit : (k : Option Request) (c : Call) (o : Outcome) (s : ℕ) → s ≡ status_of o → Ended k c o → s ≡ 4
    → (b : Command) × IsRun b × (k ≡ Some (OnDeck b)) × IfSome c.left_before (GivesRun b end.StepLimit c.taken_before c.taken_now)
at_limit k c o s e h q =
    let g = asked k c o StepLimit h (tells.is_limited o s e q) (λ z. omega (arith, z)) in
    cut_for k g.0 c g.1 g.2

little_given : (k : Command) → IsRun k → (c : Call) → GivesLittle k c → IfSome c.left_before (GivesAtMostPart k c.taken_before c.taken_now)
little_given (Vectorise w) run c h = absurd run
little_given (Graph w) run c h = absurd run
little_given (Run77 options) run c h = always c.left_before (λ deck. inl h)
little_given (Run90 options) run c (inl h) = always c.left_before (λ deck. inl h)
little_given (Run90 options) run c (inr h) = map_some c.left_before (λ deck g. inr (run_part_given (Run90 options) run c.taken_before c.taken_now deck g)) h

pub part_without_memory : (k : Command) → IsRun k → (c : Call) (o : Outcome) (s : ℕ) → s ≡ status_of o → Ends k c o → s ≡ 7 → IfSome c.left_before (GivesAtMostPart k c.taken_before c.taken_now)
part_without_memory k run c o s e h q = little_given k run c (at_outcome k c o OutOfMemory (tells.is_out_of_memory o s e q) h)

-- ---- a deck that is read

some_inj : {A : Type 0} (x y : A) → ◌≡◌ {A = Option A} (Some x) (Some y) → x ≡ y
some_inj x y e = cc

-- the status of a call in which nothing failed
abbrev status_at : End → ℕ
status_at end.Done = 0
status_at (end.Fault fault line) = 3
status_at end.StepLimit = 4
status_at end.WriteFault = 6

-- the deck's program comes to one end
one_end : (k : Command) (e e' : End) (before now : Option (List ℕ)) (deck : List ℕ) (p : Program) → GivesAll k e before now deck → Reads k deck p → ending_of k deck p ≡ Some e' → e ≡ e'
one_end k e e' before now deck p g reads q = some_inj e e' (sym g.ending ∙ ap (ending_of k deck) (sym (g.read.only p reads)) ∙ q)

abbrev IsComplete : Command → Call → ℕ → End → List ℕ → Type 0
IsComplete k c s e deck = (p : Program) → Reads k deck p → ending_of k deck p ≡ Some e
    → (Rose c.deck_faults_before c.deck_faults_now → ⊥) → (Rose c.out_faults_before c.out_faults_now → ⊥) → IsOneOf (status_at e ∷ 7 ∷ []) s

all_given : (k : Command) (c : Call) (s : ℕ) (e e' : End) → s ≡ status_at e → IfSome c.left_before (GivesAll k e c.taken_before c.taken_now) → IfSome c.left_before (IsComplete k c s e')
all_given k c s e e' q h =
    map_some c.left_before (λ deck (g : GivesAll k e c.taken_before c.taken_now deck) p reads r _ _. inl (q ∙ ap status_at (one_end k e e' c.taken_before c.taken_now deck p g reads r))) h

complete : (k : Command) (c : Call) (o : Outcome) (s : ℕ) (e : End) → s ≡ status_of o → Ends k c o → IfSome c.left_before (IsComplete k c s e)
complete k c Done s e q h = all_given k c s end.Done e q h.1
complete k c Usage s e q h = absurd h
complete k c (Refused r) s e q h = map_some c.left_before (λ deck (for : IsRefusedFor k r deck) p reads _ _ _. absurd (for.unread p reads)) h.0
complete k c (Faulted fault line) s e q h = all_given k c s (end.Fault fault line) e q h.1.1
complete k c StepLimit s e q h = all_given k c s end.StepLimit e q h.1.1
complete k c ReadFault s e q h = always c.left_before (λ deck p reads _ still _. absurd (still h.0))
complete k c WriteFault s e q h = always c.left_before (λ deck p reads _ _ still. absurd (still h.0))
complete k c OutOfMemory s e q h = always c.left_before (λ deck p reads _ _ _. inr q)

pub done : (k : Command) (c : Call) (o : Outcome) (s : ℕ) → s ≡ status_of o → Ends k c o
    → IfSome c.left_before (λ deck. (p : Program) → Reads k deck p → ending_of k deck p ≡ Some end.Done
    → (Rose c.deck_faults_before c.deck_faults_now → ⊥) → (Rose c.out_faults_before c.out_faults_now → ⊥) → IsOneOf (0 ∷ 7 ∷ []) s)
done k c o s q h = complete k c o s end.Done q h

pub faults : (k : Command) → IsRun k → (c : Call) (o : Outcome) (s : ℕ) → s ≡ status_of o → Ends k c o
    → IfSome c.left_before (λ deck. (p : Program) → Reads k deck p → (fault : Kind) (line : ℕ) → ending (run_of k deck p) ≡ Some (end.Fault fault line)
    → (Rose c.deck_faults_before c.deck_faults_now → ⊥) → (Rose c.out_faults_before c.out_faults_now → ⊥) → IsOneOf (3 ∷ 7 ∷ []) s)
faults k run c o s q h = by c.left_before (λ fault line. complete k c o s (end.Fault fault line) q h)
  where
    by : (left : Option (List ℕ)) → ((fault : Kind) (line : ℕ) → IfSome left (IsComplete k c s (end.Fault fault line)))
        → IfSome left (λ deck. (p : Program) → Reads k deck p → (fault : Kind) (line : ℕ) → ending (run_of k deck p) ≡ Some (end.Fault fault line)
        → (Rose c.deck_faults_before c.deck_faults_now → ⊥) → (Rose c.out_faults_before c.out_faults_now → ⊥) → IsOneOf (3 ∷ 7 ∷ []) s)
    by None f = tt
    by (Some deck) f = λ p reads fault line e. f fault line p reads (sym (run_ends k deck p run) ∙ e)

pub limits : (k : Command) → IsRun k → (c : Call) (o : Outcome) (s : ℕ) → s ≡ status_of o → Ends k c o
    → IfSome c.left_before (λ deck. (p : Program) → Reads k deck p → IsExceeded k deck p
    → (Rose c.deck_faults_before c.deck_faults_now → ⊥) → (Rose c.out_faults_before c.out_faults_now → ⊥) → IsOneOf (4 ∷ 7 ∷ []) s)
limits k run c o s q h =
    map_some c.left_before (λ deck (f : IsComplete k c s end.StepLimit deck) p reads over.
    f p reads (sym (run_ends k deck p run) ∙ limited (dialect_of k) (options_in k).steps p (input_for k deck) over))
    (complete k c o s end.StepLimit q h)

pub over_limit : (k : Command) → IsRun k → (c : Call) (o : Outcome) (s : ℕ) → s ≡ status_of o → Ends k c o → s ≡ 4
    → IfSome c.left_before (λ deck. (p : Program) → Reads k deck p → IsExceeded k deck p)
over_limit k run c o s q h e =
    map_some c.left_before (λ deck (g : GivesAll k end.StepLimit c.taken_before c.taken_now deck) p reads.
    exceeded (dialect_of k) (options_in k).steps p (input_for k deck) (run_ends k deck p run ∙ ap (ending_of k deck) (g.read.only p reads) ∙ g.ending))
    (at_outcome k c o StepLimit (tells.is_limited o s q e) h).1.1

-- ---- the notes

has_fault : (k : Command) (c : Call) (fault : Kind) (line : ℕ) → IsRun k → IfSome c.left_before (GivesAll k (end.Fault fault line) c.taken_before c.taken_now) → IfSome c.left_before (HasFault k fault line)
has_fault (Vectorise w) c fault line run h = absurd run
has_fault (Graph w) c fault line run h = absurd run
has_fault (Run77 options) c fault line run h =
    map_some c.left_before (λ deck (g : GivesAll (Run77 options) (end.Fault fault line) c.taken_before c.taken_now deck). (g.program, g.read, g.ending)) h
has_fault (Run90 options) c fault line run h =
    map_some c.left_before (λ deck (g : GivesAll (Run90 options) (end.Fault fault line) c.taken_before c.taken_now deck). (g.program, g.read, g.ending)) h

true_for : (k : Command) (c : Call) (o : Outcome) → Ends k c o → IsTrueOf (Some (OnDeck k)) c.left_before o
true_for k c Done h = tt
true_for k c Usage h = tt
true_for k c (Refused r) h = map_some c.left_before (λ deck (for : IsRefusedFor k r deck). for.refused) h.0
true_for k c (Faulted fault line) h = has_fault k c fault line h.0 h.1.1
true_for k c StepLimit h = tt
true_for k c ReadFault h = tt
true_for k c WriteFault h = tt
true_for k c OutOfMemory h = tt

true_made : (n : ℕ) (c : Call) (o : Outcome) → Ended (Some (Make n)) c o → IsTrueOf (Some (Make n)) c.left_before o
true_made n c Done h = tt
true_made n c Usage h = tt
true_made n c (Refused r) h = h.0.refused
true_made n c (Faulted fault line) h = (h.0, h.1)
true_made n c StepLimit h = tt
true_made n c ReadFault h = tt
true_made n c WriteFault h = tt
true_made n c OutOfMemory h = tt

is_true : (k : Option Request) (c : Call) (o : Outcome) → Ended k c o → IsTrueOf k c.left_before o
is_true None c o h = tt
is_true (Some (OnDeck a)) c o h = true_for a c o h
is_true (Some (Make n)) c o h = true_made n c o h

pub noted : (k : Option Request) (c : Call) (o : Outcome) (s : ℕ) → s ≡ status_of o → Ended k c o → NoteFor k c.left_before s (note_of o)
noted k c o s e h = record { outcome = o; status_is = e; line_is = refl; is_true = is_true k c o h }

pub part_or_whole : {E : Type 0} (r : Result (Unit {0}) E) (before : Option (List ℕ)) (text : List ℕ) (now : Option (List ℕ)) → OnOk r (Gives before text now) → OnErr r (GivesPart before text now) → GivesPart before text now
part_or_whole (Ok u) before text now h k = (text, [], sym (append-nil text), h)
part_or_whole (Err e) before text now h k = k

-- where the notes didn't fail, they have the whole line
pub note_given : {E : Type 0} (r : Result (Unit {0}) E) (before : Option (List ℕ)) (text : List ℕ) (now : Option (List ℕ)) (f f' : ℕ) → OnOk r (Gives before text now) → OnErr r (Rose f f') → (Rose f f' → ⊥) → Gives before text now
note_given (Ok u) before text now f f' h k still = h
note_given (Err e) before text now f f' h k still = absurd (still k)
