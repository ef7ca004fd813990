-- What a command does with the bytes of a deck, as what the call did.
use Rattle.std.proofs.Common.{◌≡◌, ℕ, List, ◌≤◌, ◌<◌, length, refl, sym, subst, arith, Option, None, Some, inl, inr}
use Rattle.std.specs.Prelude.{IfSome}
use Rattle.std.specs.Io.KnownBytes.{IsAtEnd}
use Rattle.tree.specs.declared.refusals.Refusal.{Refusal}
use Rattle.tree.specs.Plain.{Program}
use Rattle.streams.specs.Streams.{Takes, TakesMoreThan}
use Rattle.streams.proofs.Told.{takes_all, had_more_than}
use Rattle.meaning.specs.declared.End.{End}
use Rattle.meaning.specs.declared.End.TheVariants as end
use Rattle.tree.specs.Causes.{refusal_at}
use Rattle.tree.specs.declared.refusals.Cause.TheVariants as cause
use Rattle.tool.specs.declared.commands.commands.Command.{Command}
use Rattle.tool.specs.declared.commands.commands.Command.TheVariants.{Vectorise, Graph, Run77, Run90}
use Rattle.tool.specs.declared.report.outcome.Outcome.{Outcome}
use Rattle.tool.specs.declared.report.outcome.Outcome.TheVariants.{Done, Usage, Refused, Faulted, StepLimit, ReadFault, WriteFault, OutOfMemory}
use Rattle.tool.specs.Decks.{Reads, IsRefused, IsRefusedFor, most_bytes}
use Rattle.tool.specs.Decks.RefusedDeck77.{TooLong as too_long77}
use Rattle.tool.specs.Decks.RefusedDeck90.{TooLong as too_long90}
use Rattle.tool.specs.Endings.{Call, Ends, GivesLittle, IsReadFor, GivesAll, GivesFront, ending_of}
use Rattle.tool.specs.Running.{IsRun}
use Rattle.tool.specs.Unread.{IsUnread}
use Rattle.tool.specs.Works.{Writing, WithoutMemory, Works}

-- what holds of the bytes that were taken holds of the deck, where that is told
pub told : (P : List ℕ → Type 0) (left : Option (List ℕ)) (bytes : List ℕ) (now : Option (List ℕ)) → Takes left bytes now → IsAtEnd now → P bytes → IfSome left P
told P None bytes now t e h = tt
told P (Some deck) bytes now t e h = subst P (sym (takes_all deck bytes now t e)) h

-- what holds of all bytes holds of the deck, where that is told
pub of_all : (P : List ℕ → Type 0) (left : Option (List ℕ)) → ((bytes : List ℕ) → P bytes) → IfSome left P
of_all P None h = tt
of_all P (Some deck) h = h deck

some_inj : {A : Type 0} (x y : A) → ◌≡◌ {A = Option A} (Some x) (Some y) → x ≡ y
some_inj x y e = cc

abbrev IsWell : End → Type 0
IsWell end.Done = Unit {0}
IsWell _ = ⊥

-- a translation ends well, and so does a listing
is_run : (k : Command) (deck : List ℕ) (p : Program) (e : End) → ending_of k deck p ≡ Some e → (IsWell e → ⊥) → IsRun k
is_run (Vectorise w) deck p e q n = absurd (n (subst IsWell (some_inj end.Done e q) tt))
is_run (Graph w) deck p e q n = absurd (n (subst IsWell (some_inj end.Done e q) tt))
is_run (Run77 options) deck p e q n = tt
is_run (Run90 options) deck p e q n = tt

-- ---- all bytes were read

little : (k : Command) (left now : Option (List ℕ)) (w : Writing) (d d' : ℕ) (bytes : List ℕ) → Takes left bytes now → IsAtEnd now → WithoutMemory k bytes w
    → GivesLittle k (record { left_before = left; left_now = now; taken_before = w.before; taken_now = w.now; deck_faults_before = d; deck_faults_now = d'; out_faults_before = w.faults_before; out_faults_now = w.faults_now })
little (Vectorise v) left now w d d' bytes t at h = h
little (Graph v) left now w d d' bytes t at h = h
little (Run77 options) left now w d d' bytes t at h = h
little (Run90 options) left now w d d' bytes t at (inl same) = inl same
little (Run90 options) left now w d d' bytes t at (inr h) =
    inr (told (GivesFront (Run90 options) w.before w.now) left bytes now t at
    (record { program = h.program; read = h.read; text = h.text; has_text = h.has_text; given = h.front }))

pub worked : (k : Command) (left now : Option (List ℕ)) (w : Writing) (d d' : ℕ) (bytes : List ℕ) (o : Outcome) → Takes left bytes now → IsAtEnd now → Works k bytes w o
    → Ends k (record { left_before = left; left_now = now; taken_before = w.before; taken_now = w.now; deck_faults_before = d; deck_faults_now = d'; out_faults_before = w.faults_before; out_faults_now = w.faults_now }) o
worked k left now w d d' bytes Done t at h = (
  at,
  told (GivesAll k end.Done w.before w.now) left bytes now t at
      (record { program = h.program; read = h.read; ending = h.comes.ending_is; text = h.text; has_text = h.has_text; given = h.comes.all }),
)
worked k left now w d d' bytes Usage t at h = absurd h
worked k left now w d d' bytes (Refused r) t at h = (told (IsRefusedFor k r) left bytes now t at h.0, (inl at, λ _. at), h.1)
worked k left now w d d' bytes (Faulted fault line) t at h = (
  is_run k bytes h.program (end.Fault fault line) h.comes.ending_is (λ well. well),
  (
    at,
    told (GivesAll k (end.Fault fault line) w.before w.now) left bytes now t at
        (record { program = h.program; read = h.read; ending = h.comes.ending_is; text = h.text; has_text = h.has_text; given = h.comes.all }),
  ),
)
worked k left now w d d' bytes StepLimit t at h = (
  is_run k bytes h.program end.StepLimit h.comes.ending_is (λ well. well),
  (
    at,
    told (GivesAll k end.StepLimit w.before w.now) left bytes now t at
        (record { program = h.program; read = h.read; ending = h.comes.ending_is; text = h.text; has_text = h.has_text; given = h.comes.all }),
  ),
)
worked k left now w d d' bytes ReadFault t at h = absurd h
worked k left now w d d' bytes WriteFault t at h = (
  h.comes.fault,
  at,
  told (GivesFront k w.before w.now) left bytes now t at
      (record { program = h.program; read = h.read; text = h.text; has_text = h.has_text; given = h.comes.front }),
)
worked k left now w d d' bytes OutOfMemory t at h = little k left now w d d' bytes t at h

-- the same of the command that was asked for
pub worked_for : (k asked : Command) (left now : Option (List ℕ)) (w : Writing) (d d' : ℕ) (items bytes : List ℕ) (o : Outcome) → asked ≡ k → items ≡ bytes → Takes left bytes now → IsAtEnd now → Works k items w o
    → Ends asked (record { left_before = left; left_now = now; taken_before = w.before; taken_now = w.now; deck_faults_before = d; deck_faults_now = d'; out_faults_before = w.faults_before; out_faults_now = w.faults_now }) o
worked_for k asked left now w d d' items bytes o e same t at h =
    worked asked left now w d d' bytes o t at (subst (λ (k : Command). Works k bytes w o) (sym e) (subst (λ (b : List ℕ). Works k b w o) same h))

-- ---- the bytes weren't read

too_long : (k : Command) (deck : List ℕ) → most_bytes k < length deck → IsRefused k deck (refusal_at cause.TooLong 0)
too_long (Vectorise w) deck h = too_long77 h
too_long (Graph w) deck h = too_long77 h
too_long (Run77 options) deck h = too_long77 h
too_long (Run90 options) deck h = too_long90 h

within : (k : Command) (deck : List ℕ) (p : Program) → Reads k deck p → length deck ≤ most_bytes k
within (Vectorise w) deck p reads = reads.within
within (Graph w) deck p reads = reads.within
within (Run77 options) deck p reads = reads.within
within (Run90 options) deck p reads = reads.within

not_both : (n m : ℕ) → n ≤ m → m < n → ⊥
not_both n m a b = omega (arith, a, b)

not_read : (k : Command) (deck : List ℕ) → most_bytes k < length deck → (p : Program) → Reads k deck p → ⊥
not_read k deck h p reads = not_both (length deck) (most_bytes k) (within k deck p reads) h

passed : (k : Command) (left now : Option (List ℕ)) → TakesMoreThan (most_bytes k) left now → IfSome left (IsRefusedFor k (refusal_at cause.TooLong 0))
passed k None now h = tt
passed k (Some deck) now h =
    let long : most_bytes k < length deck = had_more_than deck (most_bytes k) now h in
    record { refused = too_long k deck long; unread = not_read k deck long }

-- nothing was given
still : (k : Command) (c : Call) → c.taken_now ≡ c.taken_before → GivesLittle k c
still (Vectorise w) c e = e
still (Graph w) c e = e
still (Run77 options) c e = e
still (Run90 options) c e = inl e

unread_of : (k : Command) (left now taken : Option (List ℕ)) (d d' f f' : ℕ) (o : Outcome) → IsUnread (most_bytes k) left now d d' o
    → Ends k (record { left_before = left; left_now = now; taken_before = taken; taken_now = taken; deck_faults_before = d; deck_faults_now = d'; out_faults_before = f; out_faults_now = f' }) o
unread_of k left now taken d d' f f' Done h = absurd h
unread_of k left now taken d d' f f' Usage h = absurd h
unread_of k left now taken d d' f f' (Refused r) h =
    subst (λ (r : Refusal). IfSome left (IsRefusedFor k r) × IsReadFor (most_bytes k) left now r × (taken ≡ taken)) (sym h.0) (passed k left now h.1, (inr h.1, λ other. absurd (other refl)), refl)
unread_of k left now taken d d' f f' (Faulted fault line) h = absurd h
unread_of k left now taken d d' f f' StepLimit h = absurd h
unread_of k left now taken d d' f f' ReadFault h = (h, refl)
unread_of k left now taken d d' f f' WriteFault h = absurd h
unread_of k left now taken d d' f f' OutOfMemory h =
    still k (record { left_before = left; left_now = now; taken_before = taken; taken_now = taken; deck_faults_before = d; deck_faults_now = d'; out_faults_before = f; out_faults_now = f' }) refl

pub unread : (k : Command) (most : ℕ) (left now taken : Option (List ℕ)) (d d' f f' : ℕ) (o : Outcome) → most ≡ most_bytes k → IsUnread most left now d d' o
    → Ends k (record { left_before = left; left_now = now; taken_before = taken; taken_now = taken; deck_faults_before = d; deck_faults_now = d'; out_faults_before = f; out_faults_now = f' }) o
unread k most left now taken d d' f f' o e h = unread_of k left now taken d d' f f' o (subst (λ (most : ℕ). IsUnread most left now d d' o) e h)

-- no more bytes are handed to the command than its deck may have
pub fits : (k asked : Command) (most : ℕ) (items bytes : List ℕ) → most ≡ most_bytes asked → asked ≡ k → items ≡ bytes → length bytes ≤ most → length items ≤ most_bytes k
fits k asked most items bytes e q same h =
    subst (λ (bytes : List ℕ). length bytes ≤ most_bytes k) (sym same) (subst (λ (k : Command). length bytes ≤ most_bytes k) q (subst (λ (most : ℕ). length bytes ≤ most) e h))
