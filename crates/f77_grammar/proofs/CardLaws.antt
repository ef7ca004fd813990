-- A source is read as cards or refused.
use Rattle.std.proofs.Common.{◌≡◌, ℕ, ◌^◌, ◌≤◌, List, [], ◌∷◌, length, refl, ap, sym, ◌∙◌, subst, inl, inr, ◌⊎◌, Option, None, Some}
use Rattle.std.specs.Prelude.{map}
use Rattle.std.proofs.lemmas.Bool.{cases_Bool, cases_lt, not_from_false}
use Rattle.tree.specs.Causes.{refusal_at}
use Rattle.tree.specs.declared.refusals.Cause.TheVariants as causes'
use Rattle.tree.specs.declared.refusals.Refusal.{Refusal}
use Rattle.f77_grammar.specs.Cards.{Line, PlainCard, HasCardCause, RefusedCards, ReadsCards, is_initial, card_in, cause_of_line, statement_lines}
use Rattle.f77_grammar.specs.Cards.LineCause.{LineForm}
use Rattle.f77_grammar.specs.Cards.IsWrong.{HasNoInitialLine}
use Rattle.f77_grammar.specs.Cards.HasCardCause.{TooLong, AtLine}
use Rattle.f77_grammar.proofs.Answered.{one_answer}
use Rattle.f77_grammar.proofs.CardCauses.{refusal_of, refusal_of-Some, refusal_of-None}
use Rattle.f77_grammar.proofs.Grouping.{leading, grouped, leading-initial, AreCards-grouped, cards_are_grouped}

-- where nothing is refused, no continuation line stands in front
no_orphan_by : (text : List ℕ) (ls : List Line) → statement_lines text ≡ ls → ((r : Refusal) → HasCardCause text r → ⊥) → leading ls ≡ []
no_orphan_by text [] e none = refl
no_orphan_by text (l ∷ ls) e none =
    elim (cases_Bool (is_initial l)) [
      | inl i ↦ leading-initial l ls i
      | inr i ↦ absurd (none (refusal_at (cause_of_line LineForm) l.number) (AtLine LineForm [] l ls e (HasNoInitialLine (not_from_false (is_initial l) i) refl)))
    ]

pub no_orphan : (text : List ℕ) → ((r : Refusal) → HasCardCause text r → ⊥) → leading (statement_lines text) ≡ []
no_orphan text none = no_orphan_by text (statement_lines text) refl none

pub ReadsCards-from_none : (text : List ℕ) → ((r : Refusal) → HasCardCause text r → ⊥) → ReadsCards text (map card_in (grouped (statement_lines text)))
ReadsCards-from_none text none = record { are_cards = AreCards-grouped text (no_orphan text none); unrefused = none }

-- what a source keeps that isn't refused
pub unrefused_short : (text : List ℕ) → refusal_of text ≡ None → length text ≤ 2 ^ 20
unrefused_short text e =
    elim (cases_lt (2 ^ 20) (length text)) [ inl long ↦ absurd (refusal_of-None text e (refusal_at causes'.TooLong 0) (TooLong long)) | inr short ↦ short ]

pub unrefused_front : (text : List ℕ) → refusal_of text ≡ None → leading (statement_lines text) ≡ []
unrefused_front text e = no_orphan text (refusal_of-None text e)

pub ReadsCards-from_grouped : (text : List ℕ) (cards : List PlainCard) → refusal_of text ≡ None → cards ≡ map card_in (grouped (statement_lines text)) → ReadsCards text cards
ReadsCards-from_grouped text cards e c = subst (ReadsCards text) (sym c) (ReadsCards-from_none text (refusal_of-None text e))

pub grouped_from_ReadsCards : (text : List ℕ) (cards : List PlainCard) → ReadsCards text cards → map card_in (grouped (statement_lines text)) ≡ cards
grouped_from_ReadsCards text cards h = sym (cards_are_grouped text cards h.are_cards)

-- a source that is read has no refusal, and one that is refused has that refusal
unrefused_by : (text : List ℕ) (o : Option Refusal) → refusal_of text ≡ o → ((r : Refusal) → HasCardCause text r → ⊥) → refusal_of text ≡ None
unrefused_by text None e none = e
unrefused_by text (Some r) e none = absurd (none r (refusal_of-Some text r e).holds)

pub unrefused : (text : List ℕ) (cards : List PlainCard) → ReadsCards text cards → refusal_of text ≡ None
unrefused text cards h = unrefused_by text (refusal_of text) refl h.unrefused

read_or_refused_by : (text : List ℕ) (o : Option Refusal) → refusal_of text ≡ o → ((cards : List PlainCard) × ReadsCards text cards) ⊎ ((r : Refusal) × RefusedCards text r)
read_or_refused_by text None e = inl (map card_in (grouped (statement_lines text)), ReadsCards-from_none text (refusal_of-None text e))
read_or_refused_by text (Some r) e = inr (r, refusal_of-Some text r e)

pub read_or_refused : (text : List ℕ) → ((cards : List PlainCard) × ReadsCards text cards) ⊎ ((r : Refusal) × RefusedCards text r)
read_or_refused text = read_or_refused_by text (refusal_of text) refl

pub not_both : (text : List ℕ) (cards : List PlainCard) (r : Refusal) → ReadsCards text cards → RefusedCards text r → ⊥
not_both text cards r h k = h.unrefused r k.holds

pub one_refusal : (text : List ℕ) (r s : Refusal) → RefusedCards text r → RefusedCards text s → r ≡ s
one_refusal text r s h k = one_answer (HasCardCause text) r s h k

refused_by : (text : List ℕ) (r : Refusal) (o : Option Refusal) → refusal_of text ≡ o → RefusedCards text r → refusal_of text ≡ Some r
refused_by text r None e h = absurd (refusal_of-None text e r h.holds)
refused_by text r (Some s) e h = e ∙ ap Some (one_refusal text s r (refusal_of-Some text s e) h)

pub refused : (text : List ℕ) (r : Refusal) → RefusedCards text r → refusal_of text ≡ Some r
refused text r h = refused_by text r (refusal_of text) refl h
