-- A card is read from its lines.
use Rattle.std.proofs.Common.{◌≡◌, ℕ, List, [], ◌∷◌, ◌++◌, refl, ap, sym, ◌∙◌, inl, inr, Option, None, Some}
use Rattle.std.specs.Prelude.{IfNone, map}
use Rattle.std.specs.List.{flat_map}
use Rattle.std.proofs.lemmas.List.{append-nil, append_assoc}
use Rattle.std.proofs.lemmas.Bool.{cases_Bool, not_from_false}
use Rattle.f77_grammar.specs.Cards.{Line, StatementLines, PlainCard, is_initial, statement_field, label_field, label_in_field, card_in}
use Rattle.f77_grammar.proofs.Grouping.{leading, grouped, grouped-initial, leading-continuation}

pub when_none : {X : Type 0} (o : Option X) (P : Type 0) → ((x : X) → o ≡ Some x → ⊥) → IfNone o P → P
when_none None P n h = h
when_none (Some x) P n h = absurd (n x refl)

-- the characters are all there once no continuation line is left in front
pub card_is : (first : Line) (before left : List Line) (label : Option ℕ) (line : ℕ) (chars read : List ℕ) → label ≡ label_in_field (label_field first) → line ≡ first.number → chars ≡ read
    → read ++ flat_map statement_field (leading left) ≡ flat_map statement_field (first ∷ before) → leading left ≡ []
    → record { label = label; line = line; chars = chars } ≡ card_in (record { initial = first; continuations = before })
unfolding card_in
card_is first before left label line chars read l n c e none =
    let all : chars ≡ flat_map statement_field (first ∷ before)
    = c ∙ sym (ap (λ ls. read ++ flat_map statement_field ls) none ∙ append-nil read) ∙ e in
    ap (λ o. record { label = o; line = line; chars = chars }) l ∙ ap (λ m. record { label = label_in_field (label_field first); line = m; chars = chars }) n
    ∙ ap (λ cs. record { label = label_in_field (label_field first); line = first.number; chars = cs }) all

-- a line in front that no statement before it goes on with begins a statement
pub initial_in_front : (l : Line) (ls all : List Line) → all ≡ l ∷ ls → leading all ≡ [] → grouped all ≡ record { initial = l; continuations = leading ls } ∷ grouped ls
initial_in_front l ls all e none =
    elim (cases_Bool (is_initial l)) [
      | inl i ↦ ap grouped e ∙ grouped-initial l ls i
      | inr c ↦ absurd (let h : l ∷ leading ls ≡ [] = sym (leading-continuation l ls (not_from_false (is_initial l) c)) ∙ sym (ap leading e) ∙ none in cc)
    ]

-- one card more
pub card_pushed : (done : List PlainCard) (card : PlainCard) (l : Line) (ls left rest : List Line) (all : List PlainCard) → done ++ map card_in (grouped left) ≡ all → left ≡ l ∷ ls → leading left ≡ []
    → card ≡ card_in (record { initial = l; continuations = leading ls }) → grouped rest ≡ grouped ls → (done ++ card ∷ []) ++ map card_in (grouped rest) ≡ all
card_pushed done card l ls left rest all e h none c g =
    append_assoc done (card ∷ []) (map card_in (grouped rest))
    ∙ ap (λ x. done ++ x ∷ map card_in (grouped rest)) c
    ∙ ap (λ (gs : List StatementLines). done ++ card_in (record { initial = l; continuations = leading ls }) ∷ map card_in gs) g
    ∙ ap (λ (gs : List StatementLines). done ++ map card_in gs) (sym (initial_in_front l ls left h none)) ∙ e

pub none_left : {X : Type 0} (o : Option X) → ((x : X) → o ≡ Some x → ⊥) → o ≡ None
none_left None n = refl
none_left (Some x) n = absurd (n x refl)
