-- What a text is read as, or refused for: the clauses of reading.
use Rattle.std.proofs.Common.{◌≡◌, false, ◌⊎◌, inl, inr, ℕ, ◌<◌, ◌≤◌, Result, Ok, Err, IfOk, List}
use Rattle.std.proofs.Common.{length, Contains, refl, sym, ap, subst, arith}
use Rattle.std.specs.Prelude.{IsOkAnd}
use Rattle.std.specs.Str.Lines.{lines}
use Rattle.reading.specs.refusal_order.Answered.{comes_before, IsAnswered}
use Rattle.reading.proofs.refusal_order.Answered.{one_answer, not_before_least}
use Rattle.tree.specs.Causes.{refusal_at, number_of_cause}
use Rattle.tree.specs.Limits.{deck_bytes90}
use Rattle.tree.specs.Plain.{Program}
use Rattle.tree.specs.View.{program_of_90}
use Rattle.tree.specs.declared.programs.Program90.{Program90}
use Rattle.tree.specs.declared.refusals.Cause.{Cause}
use Rattle.tree.specs.declared.refusals.Cause.TheVariants.{WideLiteral90, Deep90, Structure, Declared90, TypeClash90}
use Rattle.tree.specs.declared.refusals.Cause.TheVariants.{Limit90, Syntax90}
use Rattle.tree.specs.declared.refusals.Refusal.{Refusal}
use Rattle.tree.specs.declared.refusals.Refused.{Refused}
use Rattle.tree.specs.declared.refusals.Refused.TheVariants as refused
use Rattle.meaning.specs.Profile90.{IsProgram90}
use Rattle.f90_grammar.specs.Blocks.{Placed}
use Rattle.f90_grammar.specs.Declared.{declarations_of}
use Rattle.f90_grammar.specs.FreeForm.{FreeStatement, AreStatements}
use Rattle.f90_grammar.specs.LineCauses.{HasLineCause}
use Rattle.f90_grammar.specs.LineCauses.HasLineCause.{HoldsBadByte, IsLong, EndsWithin}
use Rattle.f90_grammar.specs.Programs.{IsProgramOf}
use Rattle.f90_grammar.specs.Refusals.{HasNoForm90, HoldsIn, HasCause90, IsRefusable}
use Rattle.f90_grammar.specs.Refusals.{Reads90, Refused90}
use Rattle.f90_grammar.specs.Refusals.HoldsIn.{AtPlace, HasNoStatement, IsWrongInBlocks}
use Rattle.f90_grammar.specs.Refusals.HasCause90.{InLines, InWords, InStatements}
use Rattle.f90_grammar.specs.Refusals.IsRefusable.{For, ForNames}
use Rattle.f90_names.specs.kinds.declarations.Names.{AreNamesOf}
use Rattle.f90_names.specs.declared.kinds.declarations.names.Names.{Names}
use Rattle.f90_trees.specs.declared.functions.Functions.{Functions}
use Rattle.f90_lines.specs.Views.{statements_seen}
use Rattle.f90_lines.specs.declared.readings.Statement.{Statement as Written}
use Rattle.f90_names.specs.calls.Formless.{IsFormless, HaveSuitedForms}
use Rattle.f90_blocks.specs.places.forms.Places.{IsPlacedOf}
use Rattle.f90_blocks.specs.declared.places.forms.placing.Placed.{Placed as Held}
use Rattle.f90_statement.specs.Views.{AreOf}
use Rattle.f90_laws.proofs.readings.Programs.{read_program}
use Rattle.f90_laws.proofs.readings.Refusing.{not_refused}
use Rattle.f90_laws.proofs.unique.Lines.{statements_once}
use Rattle.f90_laws.proofs.read_back.OneProgram.{once_read}
use Rattle.f90_read.specs.Checks.{IsTextOf, IsNamedTextOf, AreFunctionsOf, IfRefusal, IsClearBelow, IsReadAs}
use Rattle.f90_read.proofs.NumberLaws.{IsOfPlaces, of_places}

-- ---- the clauses

pub ok_read : (text : List ℕ) (o : Result Program90 Refused) → IsReadAs text o
    → IfOk o (λ p. Reads90 text (program_of_90 p))
ok_read text (Ok p) h = h
ok_read text (Err e) h = tt

pub program_read : (text : List ℕ) (o : Result Program90 Refused) → IsReadAs text o → length text ≤ deck_bytes90
    → IfOk o (λ p. IsProgram90 (program_of_90 p))
program_read text (Ok p) h short = read_program text (program_of_90 p) short h.conforms
program_read text (Err e) h short = tt

pub refused_text : (text : List ℕ) (o : Result Program90 Refused) (r : Refusal) → IsReadAs text o
    → o ≡ Err (refused.Refusal r) → Refused90 text r
refused_text text o r h e = subst (IsReadAs text) e h

pub only_read : (text : List ℕ) (o : Result Program90 Refused) (p : Program) → IsReadAs text o → Reads90 text p
    → IsOkAnd o (λ read. program_of_90 read ≡ p) ⊎ (o ≡ Err refused.Memory)
only_read text (Ok q) p h g = inl (once_read text (program_of_90 q) p h.conforms g.conforms)
only_read text (Err (refused.Refusal r)) p h g = absurd (not_refused text p r g h)
only_read text (Err refused.Memory) p h g = inr refl

pub only_refused : (text : List ℕ) (o : Result Program90 Refused) (r : Refusal) → IsReadAs text o → Refused90 text r
    → (o ≡ Err (refused.Refusal r)) ⊎ (o ≡ Err refused.Memory)
only_refused text (Ok q) r h g = absurd (not_refused text (program_of_90 q) r h g)
only_refused text (Err (refused.Refusal s)) r h g = inl (ap (λ (q : Refusal). Err (refused.Refusal q))
    (one_answer (IsRefusable text) s r h g))
only_refused text (Err refused.Memory) r h g = inr refl

-- ---- no number is greater than 40

record IsWithin (n : ℕ) : Type 0 where
  low : 35 ≤ n
  high : n < 41

place_number : (c : Cause) → IsOfPlaces c → IsWithin (number_of_cause c)
place_number WideLiteral90 h = record { low = omega arith; high = omega arith }
place_number Deep90 h = record { low = omega arith; high = omega arith }
place_number Structure h = record { low = omega arith; high = omega arith }
place_number Declared90 h = record { low = omega arith; high = omega arith }
place_number TypeClash90 h = record { low = omega arith; high = omega arith }
place_number Limit90 h = record { low = omega arith; high = omega arith }
place_number c h = absurd h

in_statements_number : (ps : List Placed) (c : Cause) (line : ℕ) → HoldsIn ps c line → IsWithin (number_of_cause c)
in_statements_number ps c line (AtPlace d p i h) = place_number d (of_places d ps p h)
in_statements_number ps c line (HasNoStatement e) = place_number Structure tt
in_statements_number ps c line (IsWrongInBlocks l o m) = place_number Structure tt

line_cause_number : (text : List ℕ) (r : Refusal) → HasLineCause text r → r.number < 34
line_cause_number text r (HoldsBadByte front back p s e a i b) = let k : 31 < 34 = omega arith in k
line_cause_number text r (IsLong front back line e l) = let k : 32 < 34 = omega arith in k
line_cause_number text r (EndsWithin initial o a) = let k : 33 < 34 = omega arith in k

cause_number : (text : List ℕ) (r : Refusal) → HasCause90 text r → r.number < 41
cause_number text r (InLines q h) = let k = line_cause_number text r h in omega (arith, k)
cause_number text r (InWords ss s a c n) = let k : 34 < 41 = omega arith in k
cause_number text r (InStatements ps c line u h) = (in_statements_number ps c line h).high

-- a text that is clear of all numbers is read as the program that its statements are
pub clear_is_read : (text : List ℕ) (ps : List Placed) (ks : List Held) (q : Program) → IsTextOf text ps ks
    → IsClearBelow text 41 → IsProgramOf ps q → Reads90 text q
clear_is_read text ps ks q t clear is = record {
  conforms = (record {
    statements = ps;
    of_text = t.of_text;
    calls = t.calls;
    is_program = is;
    unrefused = λ r h. let k = clear r (For r h) in let l = cause_number text r h in omega (arith, k, l);
  });
  within = λ line h. let k : 41 ≤ 40 = clear (refusal_at Limit90 line) (ForNames line h) in omega arith;
}

-- ---- lines and words

-- a refusal is for lines, for words, or has a greater number
data IsSorted (text : List ℕ) (r : Refusal) : Type 0 where
  OfLines : HasLineCause text r → IsSorted text r
  OfWords : (ss : List FreeStatement) → AreStatements 1 (lines text) ss → IsFormless ss r → IsSorted text r
  OfPlaces : 35 ≤ r.number → IsSorted text r

sorted : (text : List ℕ) (r : Refusal) → IsRefusable text r → IsSorted text r
sorted text r (For q (InLines s h)) = OfLines h
sorted text r (For q (InWords ss s a c n)) = OfWords ss a (record
    { statement = s; stands = c; none = n; refusal = refl })
sorted text r (For q (InStatements ps c line u h)) = OfPlaces (in_statements_number ps c line h).low
sorted text r (ForNames line h) = let k : 35 ≤ 40 = omega arith in OfPlaces k

word_number : (ss : List FreeStatement) (r : Refusal) → IsFormless ss r → r.number ≡ 34
word_number ss r h = ap (λ (q : Refusal). q.number) h.refusal

later : (r other : Refusal) → r.number < other.number → comes_before other r ≡ false
later r other l = not_before_least r other (omega arith) (λ same. absurd (omega arith))

-- refusals for lines come first
pub lines_first : (text : List ℕ) (r : Refusal) → IsAnswered (HasLineCause text) r → Refused90 text r
lines_first text r h = record { holds = For r (InLines r h.holds); first = λ other g. by other (sorted text other g) }
  where
    by : (other : Refusal) → IsSorted text other → comes_before other r ≡ false
    by other (OfLines g) = h.first other g
    by other (OfWords ss a g) = let k = line_cause_number text r h.holds in let n = word_number ss other g in
        later r other (omega (arith, k, n))
    by other (OfPlaces l) = let k = line_cause_number text r h.holds in later r other (omega (arith, k, l))

-- and then those of statements without a form
pub words_first : (text : List ℕ) (ss : List FreeStatement) (r : Refusal) → AreStatements 1 (lines text) ss
    → ((r : Refusal) → HasLineCause text r → ⊥)
    → IsAnswered (IsFormless ss) r → Refused90 text r
words_first text ss r a none h = record {
  holds = subst (IsRefusable text) (sym h.holds.refusal)
      (For (refusal_at Syntax90 h.holds.statement.line) (InWords ss h.holds.statement a h.holds.stands h.holds.none));
  first = λ other g. by other (sorted text other g);
}
  where
    by : (other : Refusal) → IsSorted text other → comes_before other r ≡ false
    by other (OfLines g) = absurd (none other g)
    by other (OfWords us b g) = h.first other (subst (λ qs. IsFormless qs other) (statements_once b ss a) g)
    by other (OfPlaces l) = let n = word_number ss r h.holds in later r other (omega (arith, n, l))

pub clear_of_words : (text : List ℕ) (ss : List FreeStatement) → AreStatements 1 (lines text) ss
    → ((r : Refusal) → HasLineCause text r → ⊥)
    → ((s : FreeStatement) → Contains ss s → HasNoForm90 ss s → ⊥) → IsClearBelow text 35
clear_of_words text ss a none formed r h = by (sorted text r h)
  where
    by : IsSorted text r → 35 ≤ r.number
    by (OfLines g) = absurd (none r g)
    by (OfWords us b g) =
        let f = subst (λ qs. IsFormless qs r) (statements_once b ss a) g in absurd (formed f.statement f.stands f.none)
    by (OfPlaces l) = l

-- ---- answers that are handed on

abbrev failed : (A : Type 0) → Refused → Result A Refused
failed A e = Err e

pub refused_in_lines : {A : Type 0} (text : List ℕ) (e : Refused)
    → ((r : Refusal) → failed A e ≡ Err (refused.Refusal r) → IsAnswered (HasLineCause text) r)
    → IfRefusal e (Refused90 text)
refused_in_lines text (refused.Refusal r) h = lines_first text r (h r refl)
refused_in_lines text refused.Memory h = tt

abbrev RefusesFormless : (A : Type 0) → Refused → List FreeStatement → Type 0
RefusesFormless A e ss =
    (t : List ℕ) (r : Refusal) → AreStatements 1 (lines t) ss → failed A e ≡ Err (refused.Refusal r)
    → IsAnswered (IsFormless ss) r

words_refused : (A : Type 0) (text : List ℕ) (ss : List FreeStatement) (e : Refused) → AreStatements 1 (lines text) ss
    → ((r : Refusal) → HasLineCause text r → ⊥) → RefusesFormless A e ss → IfRefusal e (Refused90 text)
words_refused A text ss (refused.Refusal r) a none h = words_first text ss r a none (h text r a refl)
words_refused A text ss refused.Memory a none h = tt

pub refused_in_words : {A : Type 0} (text : List ℕ) (ws vs : List Written) (e : Refused) → vs ≡ ws
    → AreStatements 1 (lines text) (statements_seen ws) → ((r : Refusal) → HasLineCause text r → ⊥)
    → ((t : List ℕ) (r : Refusal) → AreStatements 1 (lines t) (statements_seen vs)
    → failed A e ≡ Err (refused.Refusal r) → IsAnswered (IsFormless (statements_seen vs)) r)
    → IfRefusal e (Refused90 text)
refused_in_words {A = A} text ws vs e same a none h =
    words_refused A text (statements_seen ws) e a none
    (subst (λ (xs : List Written). RefusesFormless A e (statements_seen xs)) same h)

-- ---- statements that have their forms

pub is_text : (text : List ℕ) (ss : List FreeStatement) (ks ls : List Held) → AreStatements 1 (lines text) ss
    → (h : HaveSuitedForms ss ks) → ls ≡ ks → IsTextOf text h.placed ls
is_text text ss ks ls a h e = record {
  of_text = (record { statements = ss; of_lines = a; have_forms = h.have });
  are = subst (λ (xs : List Held). AreOf IsPlacedOf xs h.placed) (sym e) h.are;
  calls = h.calls;
}

abbrev pub NoneFormless : List FreeStatement → Type 0
NoneFormless ss = (s : FreeStatement) → Contains ss s → HasNoForm90 ss s → ⊥

pub with_names : (text : List ℕ) (ps : List Placed) (ks : List Held) (functions : Functions) (names : Names)
    → IsTextOf text ps ks → AreFunctionsOf ps functions
    → AreNamesOf names (declarations_of ps) → IsNamedTextOf text ps ks functions names
with_names text ps ks functions names t f n = record { is_text = t; are_functions = f; are_names = n }
