-- What the answer to a source says, clause by clause.
use Rattle.std.proofs.Common.{◌≡◌, ◌⊎◌, inl, inr, ℕ, ◌≤◌, Result, Ok, Err, IfOk, List, map, ap, subst, arith}
use Rattle.std.specs.Prelude.{IsOkAnd}
use Rattle.tree.specs.Plain.{Program}
use Rattle.tree.specs.View.{program_of}
use Rattle.tree.specs.declared.programs.Program77.{Program77}
use Rattle.tree.specs.declared.refusals.Refusal.{Refusal}
use Rattle.tree.specs.declared.refusals.Refused.{Refused}
use Rattle.tree.specs.declared.refusals.Refused.TheVariants as refused
use Rattle.f77_grammar.specs.Cards.{PlainCard, ReadsCards, RefusedCards}
use Rattle.meaning.specs.Profile77.{IsProgram77}
use Rattle.f77_grammar.proofs.CardLaws.{not_both, one_refusal}
use Rattle.f77_grammar.proofs.Grouping.{one_reading}
use Rattle.f77_cards.specs.Card.{card_of}
use Rattle.f77_cards.specs.declared.cards.Card.{Card}
use Rattle.f77_laws.proofs.Programs.{read_is_program}
use Rattle.f77_laws.specs.SourceCards.{AreRisingCards}
use Rattle.f77_laws.proofs.Cards.{read_source_has_cards}
use Rattle.f77_laws.proofs.CardStatements.{read_cards_are_source}
use Rattle.f77_grammar.specs.program.EndDo.{with_loop_labels}
use Rattle.f77_grammar.specs.Reading77.{HasCause77, ReadsProgram, RefusedProgram, Reads77, Refused77}
use Rattle.f77_grammar.specs.Reading77.Refused77.{OfLines, OfCards}
use Rattle.f77_grammar.proofs.Answered.{one_answer}
use Rattle.meaning.specs.Dialect.{Dialect, fortran77}
use Rattle.tree.specs.declared.width.Width.{Width}
use Rattle.meaning.proofs.Widths.{widest}

pub read_is_source_program : (d : Dialect) (source : List ℕ) (cards : List PlainCard) (p : Program) → d.bits ≤ 126 → ReadsCards source cards → ReadsProgram d cards p → IsProgram77 d p
read_is_source_program d source cards p small c h =
    let s = read_cards_are_source source cards h.text c h.statements in
    read_is_program d (with_loop_labels h.text) p small h.reads s.labelled.statements s.labelled.few

pub program_of_source : (width : Width) (source : List ℕ) (cards : List PlainCard) (o : Result Program77 Refused) → ReadsCards source cards → IfOk o (λ p. ReadsProgram (fortran77 width) cards (program_of p))
    → IfOk o (λ p. IsProgram77 (fortran77 width) (program_of p))
program_of_source width source cards (Ok p) c h = read_is_source_program (fortran77 width) source cards (program_of p) (let l = widest width in omega arith) c h
program_of_source width source cards (Err e) c h = tt

-- ---- the cards of the source are built

pub source_read : (d : Dialect) (source : List ℕ) (cards : List PlainCard) (o : Result Program77 Refused) → ReadsCards source cards → IfOk o (λ p. ReadsProgram d cards (program_of p))
    → IfOk o (λ p. Reads77 d source (program_of p))
source_read d source cards (Ok p) c h = record { cards = cards; are_cards = c; program = h }
source_read d source cards (Err e) c h = tt

rising : (source : List ℕ) (cards : List PlainCard) → ReadsCards source cards → AreRisingCards cards
rising source cards c = (read_source_has_cards source cards c).rising

abbrev pub RefusesCards : (width : Width) → List PlainCard → Result Program77 Refused → Type 0
RefusesCards width cards o = (r : Refusal) → o ≡ Err (refused.Refusal r) → (10 ≤ r.number → AreRisingCards cards) → RefusedProgram (fortran77 width) cards r

pub source_refused : (width : Width) (source : List ℕ) (cards : List PlainCard) (o : Result Program77 Refused) → ReadsCards source cards → RefusesCards width cards o
    → (r : Refusal) → o ≡ Err (refused.Refusal r) → Refused77 (fortran77 width) source r
source_refused width source cards o c h r e = OfCards cards c (h r e (λ n. rising source cards c))

one_list : (source : List ℕ) (a b : List PlainCard) → ReadsCards source a → ReadsCards source b → a ≡ b
one_list source a b f g = one_reading source a b f.are_cards g.are_cards

abbrev pub ReadsOnly : (width : Width) → List PlainCard → Result Program77 Refused → Type 0
ReadsOnly width cards o = (p : Program) → ReadsProgram (fortran77 width) cards p → IsOkAnd o (λ built. program_of built ≡ p) ⊎ (o ≡ Err refused.Memory)

pub only_that_source : (width : Width) (source : List ℕ) (cards : List PlainCard) (o : Result Program77 Refused) → ReadsCards source cards → ReadsOnly width cards o
    → (p : Program) → Reads77 (fortran77 width) source p → IsOkAnd o (λ built. program_of built ≡ p) ⊎ (o ≡ Err refused.Memory)
only_that_source width source cards o c h p g = h p (subst (λ cs. ReadsProgram (fortran77 width) cs p) (one_list source g.cards cards g.are_cards c) g.program)

abbrev pub RefusesOnly : (width : Width) → List PlainCard → Result Program77 Refused → Type 0
RefusesOnly width cards o = (r : Refusal) → RefusedProgram (fortran77 width) cards r → (10 ≤ r.number → AreRisingCards cards) → (o ≡ Err (refused.Refusal r)) ⊎ (o ≡ Err refused.Memory)

pub only_that_source_refusal : (width : Width) (source : List ℕ) (cards : List PlainCard) (o : Result Program77 Refused) → ReadsCards source cards → RefusesOnly width cards o
    → (r : Refusal) → Refused77 (fortran77 width) source r → (o ≡ Err (refused.Refusal r)) ⊎ (o ≡ Err refused.Memory)
only_that_source_refusal width source cards o c h r (OfLines f) = absurd (not_both source cards r c f)
only_that_source_refusal width source cards o c h r (OfCards cs d f) =
    h r (subst (λ xs. RefusedProgram (fortran77 width) xs r) (one_list source cs cards d c) f) (λ n. rising source cards c)

-- ---- the source has no cards

abbrev answer : Refused → Result Program77 Refused
answer e = Err e

abbrev pub CardsReadOnly : List ℕ → Result (List Card) Refused → Type 0
CardsReadOnly source o = (cards : List PlainCard) → ReadsCards source cards → IsOkAnd o (λ read. map card_of read ≡ cards) ⊎ (o ≡ Err refused.Memory)

abbrev pub CardsRefusedOnly : List ℕ → Result (List Card) Refused → Type 0
CardsRefusedOnly source o = (r : Refusal) → RefusedCards source r → (o ≡ Err (refused.Refusal r)) ⊎ (o ≡ Err refused.Memory)

abbrev cards_answer : Refused → Result (List Card) Refused
cards_answer e = Err e

is_memory : (e : Refused) → ⊥ ⊎ (cards_answer e ≡ Err refused.Memory) → answer e ≡ Err refused.Memory
is_memory e (inl h) = absurd h
is_memory e (inr h) = let same : e ≡ refused.Memory = cc in ap answer same

is_refusal : (e : Refused) (r : Refusal) → (cards_answer e ≡ Err (refused.Refusal r)) ⊎ (cards_answer e ≡ Err refused.Memory) → (answer e ≡ Err (refused.Refusal r)) ⊎ (answer e ≡ Err refused.Memory)
is_refusal e r (inl h) = inl (let same : e ≡ refused.Refusal r = cc in ap answer same)
is_refusal e r (inr h) = inr (is_memory e (inr h))

pub no_other_program : (width : Width) (source : List ℕ) (e : Refused) → CardsReadOnly source (Err e) → (p : Program) → Reads77 (fortran77 width) source p
    → IsOkAnd (answer e) (λ read. program_of read ≡ p) ⊎ (answer e ≡ Err refused.Memory)
no_other_program width source e h p g = inr (is_memory e (h g.cards g.are_cards))

pub no_other_refusal : (width : Width) (source : List ℕ) (e : Refused) → CardsReadOnly source (Err e) → CardsRefusedOnly source (Err e)
    → (r : Refusal) → Refused77 (fortran77 width) source r → (answer e ≡ Err (refused.Refusal r)) ⊎ (answer e ≡ Err refused.Memory)
no_other_refusal width source e h f r (OfLines g) = is_refusal e r (f r g)
no_other_refusal width source e h f r (OfCards cs d g) = inr (is_memory e (h cs d))

-- ---- one refusal

pub one_source_refusal : (d : Dialect) (source : List ℕ) (r s : Refusal) → Refused77 d source r → Refused77 d source s → r ≡ s
one_source_refusal d source r s (OfLines f) (OfLines g) = one_refusal source r s f g
one_source_refusal d source r s (OfLines f) (OfCards cs e g) = absurd (not_both source cs r e f)
one_source_refusal d source r s (OfCards cs e f) (OfLines g) = absurd (not_both source cs s e g)
one_source_refusal d source r s (OfCards cs e f) (OfCards xs i g) = one_answer (HasCause77 d xs) r s (subst (λ ys. RefusedProgram d ys r) (one_list source cs xs e i) f) g

pub ruleset source_laws = (program_of_source, source_read, source_refused, only_that_source, only_that_source_refusal)
