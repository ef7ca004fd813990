-- What the answer of a building says, clause by clause.
use Rattle.std.proofs.Common.{◌≡◌, ◌⊎◌, inl, inr, ℕ, ◌<◌, ◌≤◌, false, Result, Ok, Err, IfOk, List, [], ◌∷◌, Contains, refl, sym, ap, subst, ◌∙◌, arith}
use Rattle.std.specs.Prelude.{Option, IsOkAnd}
use Rattle.std.specs.List.{AllByRecursion}
use Rattle.std.proofs.lemmas.List.Elements.{All-from_recursion, All-contains}
use Rattle.tree.specs.Plain.{Program}
use Rattle.tree.specs.View.{program_of}
use Rattle.tree.specs.declared.programs.Program77.{Program77}
use Rattle.tree.specs.declared.refusals.Refusal.{Refusal}
use Rattle.tree.specs.declared.refusals.Refused.{Refused}
use Rattle.tree.specs.declared.refusals.Refused.TheVariants as refused
use Rattle.f77_grammar.specs.Cards.{PlainCard}
use Rattle.f77_grammar.specs.Statement77.{Statement77, Labelled}
use Rattle.f77_grammar.specs.statements.Reading.{IsRefusedBy}
use Rattle.meaning.specs.Dialect.{Dialect, fortran77}
use Rattle.tree.specs.declared.width.Width.{Width}
use Rattle.reading.specs.refusal_order.Answered.{comes_before}
use Rattle.f77_grammar.specs.program.EndDo.{with_loop_labels}
use Rattle.f77_grammar.specs.program.Program77.{findings, ReadsStatements, RefusedStatements}
use Rattle.f77_laws.proofs.LoopLabels.{labelled_rise}
use Rattle.f77_laws.proofs.trees.Trees.{one_read}
use Rattle.f77_grammar.proofs.Answered.{one_answer}
use Rattle.f77_grammar.proofs.programs.Least.{nothing_in}
use Rattle.f77_checks.specs.Outcomes.{IfRefusal}
use Rattle.f77_laws.specs.Source.{AreRising}
use Rattle.f77_laws.specs.SourceCards.{AreRisingCards}
use Rattle.f77_grammar.specs.Reading77.{IsReadFrom, AreReadFrom}
use Rattle.f77_grammar.specs.Reading77.{ReadsProgram, HasCause77, RefusedProgram}
use Rattle.f77_grammar.specs.Reading77.HasCause77.{AtCard, InText}
use Rattle.f77_read.specs.Cards.{IsReadAlone, AreReadAlone, IsNotBefore, IsRefusedFirst}
use Rattle.f77_read.specs.Outcomes.{IsRefusedText, IsTextBuilt, IsRefusalOf, AreCardsBuilt}
use Rattle.f77_read.specs.Outcomes.IsRefusalOf.{OfCard, OfText}
use Rattle.f77_read.proofs.CardLaws.{IsUnrefused, unrefused}
use Rattle.f77_read.proofs.TextLaws.{number_of_finding}

-- ---- the statements of cards

pub are_read : (cards : List PlainCard) (text : List Labelled) → AreReadAlone cards text → AreReadFrom cards text
are_read [] [] a = tt
are_read [] (x ∷ xs) a = absurd a
are_read (c ∷ cs) [] a = absurd a
are_read (c ∷ cs) (x ∷ xs) a = (a.0.is_read, are_read cs xs a.1)

abbrev labelled : Option ℕ → ℕ → Statement77 → Labelled
labelled n l s = record { label = n; line = l; statement = s }

one_statement : (c : PlainCard) (x y : Labelled) → IsReadAlone c x → IsReadFrom c y → y ≡ x
one_statement c x y a f =
    ap (λ n. labelled n y.line y.statement) (f.label ∙ sym a.is_read.label) ∙ ap (λ l. labelled x.label l y.statement) (f.line ∙ sym a.is_read.line)
    ∙ ap (λ s. labelled x.label x.line s) (a.only y.statement f.reads)

pub one_text : (cards : List PlainCard) (text other : List Labelled) → AreReadAlone cards text → AreReadFrom cards other → other ≡ text
one_text [] [] [] a f = refl
one_text [] [] (y ∷ ys) a f = absurd f
one_text [] (x ∷ xs) other a f = absurd a
one_text (c ∷ cs) [] other a f = absurd a
one_text (c ∷ cs) (x ∷ xs) [] a f = absurd f
one_text (c ∷ cs) (x ∷ xs) (y ∷ ys) a f = ap (λ z. z ∷ ys) (one_statement c x y a.0 f.0) ∙ ap (λ zs. x ∷ zs) (one_text cs xs ys a.1 f.1)

later : (n m : ℕ) (cards : List PlainCard) (text : List Labelled) → m ≡ n → AreReadFrom cards text → AllByRecursion (λ (c : PlainCard). n < c.line) cards
    → AllByRecursion (λ (y : Labelled). m < y.line) text
later n m [] [] e f a = tt
later n m [] (x ∷ xs) e f a = absurd f
later n m (c ∷ cs) [] e f a = absurd f
later n m (c ∷ cs) (x ∷ xs) e f a = (let l : x.line ≡ c.line = f.0.line in let lt : n < c.line = a.0 in omega (arith, e, l, lt), later n m cs xs e f.1 a.1)

pub rising_text : (cards : List PlainCard) (text : List Labelled) → AreReadFrom cards text → AreRisingCards cards → AreRising text
rising_text [] [] f a = tt
rising_text [] (x ∷ xs) f a = absurd f
rising_text (c ∷ cs) [] f a = absurd f
rising_text (c ∷ cs) (x ∷ xs) f a = (later c.line x.line cs xs f.0.line f.1 a.0, rising_text cs xs f.1 a.1)

-- ---- the refusal that is answered

no_refusal_at : (cards : List PlainCard) (text : List Labelled) (card : PlainCard) (n w : ℕ) → AreReadAlone cards text → Contains cards card → IsRefusedBy card.chars n w → ⊥
no_refusal_at cards text card n w a c h = All-contains IsUnrefused cards card (All-from_recursion IsUnrefused cards (unrefused cards text a)) c n w h

refusal_of : ℕ → ℕ → ℕ → Refusal
refusal_of n l w = record { number = n; line = l; word = w }

pub answered_card : (d : Dialect) (cards : List PlainCard) (r : Refusal) → IsRefusedFirst cards r → RefusedProgram d cards r
answered_card d cards r f = record {
  holds = subst (λ l. HasCause77 d cards (record { number = r.number; line = l; word = r.word })) (sym f.line) (AtCard f.card r.number r.word f.is_card f.refused);
  first = follows;
}
  where
    follows : (other : Refusal) → HasCause77 d cards other → comes_before other r ≡ false
    follows other (AtCard card n w c h) = All-contains (IsNotBefore r) cards card (All-from_recursion (IsNotBefore r) cards f.first) c n w h
    follows other (InText text o a c) = absurd (f.unread text a)

pub answered_text : (d : Dialect) (cards : List PlainCard) (text : List Labelled) (r : Refusal) → AreReadAlone cards text → RefusedStatements d (with_loop_labels text) r → RefusedProgram d cards r
answered_text d cards text r a f = record {
  holds = InText text r (are_read cards text a) f.holds;
  first = follows;
}
  where
    follows : (other : Refusal) → HasCause77 d cards other → comes_before other r ≡ false
    follows other (AtCard card n w c h) = absurd (no_refusal_at cards text card n w a c h)
    follows other (InText t o b c) = f.first o (subst (λ ys. Contains (findings d (with_loop_labels ys)) o) (one_text cards text t a b) c)

-- ---- the text of cards that are read

text_refused : (width : Width) (cards : List PlainCard) (text : List Labelled) (e : Refused) → AreReadAlone cards text → IfRefusal e (IsRefusedText width (with_loop_labels text)) → IfRefusal e (IsRefusalOf width cards)
text_refused width cards text (refused.Refusal r) a h = OfText text a h
text_refused width cards text refused.Memory a h = tt

pub text_built : (width : Width) (cards : List PlainCard) (text : List Labelled) (o : Result Program77 Refused) → AreReadAlone cards text → IsTextBuilt width (with_loop_labels text) o → AreCardsBuilt width cards o
text_built width cards text (Ok p) a h = record { text = text; statements = a; reads = h }
text_built width cards text (Err e) a h = text_refused width cards text e a h

pub card_refused : (width : Width) (cards : List PlainCard) (e : Refused) → IfRefusal e (IsRefusedFirst cards) → IfRefusal e (IsRefusalOf width cards)
card_refused width cards (refused.Refusal r) h = OfCard h
card_refused width cards refused.Memory h = tt

-- ---- the clauses

pub program_if_ok : (width : Width) (cards : List PlainCard) (o : Result Program77 Refused) → AreCardsBuilt width cards o → IfOk o (λ p. ReadsProgram (fortran77 width) cards (program_of p))
program_if_ok width cards (Ok p) h = record { text = h.text; statements = are_read cards h.text h.statements; reads = h.reads }
program_if_ok width cards (Err e) h = tt

answered_by : (width : Width) (cards : List PlainCard) (r : Refusal) → IsRefusalOf width cards r → (10 ≤ r.number → AreRisingCards cards) → RefusedProgram (fortran77 width) cards r
answered_by width cards r (OfCard f) rising = answered_card (fortran77 width) cards r f
answered_by width cards r (OfText text a f) rising = answered_text (fortran77 width) cards text r a (f.first (labelled_rise text (rising_text cards text (are_read cards text a) (rising f.number))))

pub answered_if_refused : (width : Width) (cards : List PlainCard) (o : Result Program77 Refused) (r : Refusal) → AreCardsBuilt width cards o → o ≡ Err (refused.Refusal r)
    → (10 ≤ r.number → AreRisingCards cards) → RefusedProgram (fortran77 width) cards r
answered_if_refused width cards o r h e rising = answered_by width cards r (subst (AreCardsBuilt width cards) e h) rising

not_refused : (width : Width) (cards : List PlainCard) (r : Refusal) (p : Program) → IsRefusalOf width cards r → ReadsProgram (fortran77 width) cards p → ⊥
not_refused width cards r p (OfCard f) g = f.unread g.text g.statements
not_refused width cards r p (OfText text a f) g = f.unsound (subst (λ ys. findings (fortran77 width) (with_loop_labels ys) ≡ []) (one_text cards text g.text a g.statements) g.reads.sound)

pub only_that_program : (width : Width) (cards : List PlainCard) (o : Result Program77 Refused) → AreCardsBuilt width cards o → (p : Program) → ReadsProgram (fortran77 width) cards p
    → IsOkAnd o (λ built. program_of built ≡ p) ⊎ (o ≡ Err refused.Memory)
only_that_program width cards (Ok q) h p g = inl (one_read (fortran77 width) (with_loop_labels g.text) (program_of q) p (subst (λ ys. ReadsStatements (fortran77 width) (with_loop_labels ys) (program_of q)) (sym (one_text cards h.text g.text h.statements g.statements)) h.reads) g.reads)
only_that_program width cards (Err (refused.Refusal r)) h p g = absurd (not_refused width cards r p h g)
only_that_program width cards (Err refused.Memory) h p g = inr refl

no_cause : (width : Width) (cards : List PlainCard) (text : List Labelled) (r : Refusal) → AreReadAlone cards text → findings (fortran77 width) (with_loop_labels text) ≡ [] → HasCause77 (fortran77 width) cards r → ⊥
no_cause width cards text r a e (AtCard card n w c h) = no_refusal_at cards text card n w a c h
no_cause width cards text r a e (InText t o b c) = nothing_in o (subst (λ xs. Contains xs o) e (subst (λ ys. Contains (findings (fortran77 width) (with_loop_labels ys)) o) (one_text cards text t a b) c))

-- what is answered of cards that are statements is a finding
number_of_cause : (width : Width) (cards : List PlainCard) (text : List Labelled) (r : Refusal) → AreReadAlone cards text → HasCause77 (fortran77 width) cards r → 10 ≤ r.number
number_of_cause width cards text r a (AtCard card n w c h) = absurd (no_refusal_at cards text card n w a c h)
number_of_cause width cards text r a (InText t o b c) =
    All-contains (λ (other : Refusal). 10 ≤ other.number) (findings (fortran77 width) (with_loop_labels t)) o
    (All-from_recursion (λ (other : Refusal). 10 ≤ other.number) (findings (fortran77 width) (with_loop_labels t)) (number_of_finding width (with_loop_labels t))) c

same_answer : (width : Width) (cards : List PlainCard) (s r : Refusal) → IsRefusalOf width cards s → RefusedProgram (fortran77 width) cards r → (10 ≤ r.number → AreRisingCards cards) → s ≡ r
same_answer width cards s r (OfCard f) g rising = one_answer (HasCause77 (fortran77 width) cards) s r (answered_card (fortran77 width) cards s f) g
same_answer width cards s r (OfText text a f) g rising =
    one_answer (HasCause77 (fortran77 width) cards) s r (answered_by width cards s (OfText text a f) (λ n. rising (number_of_cause width cards text r a g.holds))) g

pub only_that_refusal : (width : Width) (cards : List PlainCard) (o : Result Program77 Refused) → AreCardsBuilt width cards o → (r : Refusal) → RefusedProgram (fortran77 width) cards r
    → (10 ≤ r.number → AreRisingCards cards) → (o ≡ Err (refused.Refusal r)) ⊎ (o ≡ Err refused.Memory)
only_that_refusal width cards (Ok p) h r g rising = absurd (no_cause width cards h.text r h.statements h.reads.sound g.holds)
only_that_refusal width cards (Err (refused.Refusal s)) h r g rising = inl (ap (λ x. Err (refused.Refusal x)) (same_answer width cards s r h g rising))
only_that_refusal width cards (Err refused.Memory) h r g rising = inr refl

pub ruleset answer_laws = (program_if_ok, answered_if_refused, only_that_program, only_that_refusal)
