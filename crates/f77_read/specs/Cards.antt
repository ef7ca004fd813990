-- What was found in the cards that were tried.
use Rattle.std.specs.Prelude.{◌≡◌, ℕ, false, if◌then◌else◌, Option, None, Some, Result, Ok, Err, List, [], ◌∷◌}
use Rattle.std.specs.List.{Contains, AllByRecursion}
use Rattle.tree.specs.declared.refusals.Refusal.{Refusal}
use Rattle.tree.specs.declared.refusals.Refused.{Refused}
use Rattle.f77_grammar.specs.Cards.{PlainCard}
use Rattle.f77_grammar.specs.Statement77 as plain
use Rattle.f77_grammar.specs.Statement77.{Statement77}
use Rattle.f77_grammar.specs.statements.Reading.{ReadsStatement, IsRefusedBy}
use Rattle.reading.specs.refusal_order.Answered.{comes_before}
use Rattle.f77_checks.specs.Outcomes.{IfRefusal}
use Rattle.f77_grammar.specs.declared.syntax.statements.Labelled.{Labelled}
use Rattle.f77_grammar.specs.syntax.Views.{labelled_of, text_of}
use Rattle.f77_read.specs.declared.cards.Tried.{Tried}
use Rattle.f77_grammar.specs.Reading77.{IsReadFrom, AreReadFrom}

abbrev pub card_refusal : PlainCard → ℕ → ℕ → Refusal
card_refusal card number word = record { number = number; line = card.line; word = word }

-- ---- one card

-- the card is read as this statement alone, and isn't refused
pub record IsReadAlone (card : PlainCard) (x : plain.Labelled) : Type 0 where
  pub is_read : IsReadFrom card x
  pub only : (s : Statement77) → ReadsStatement card.chars s → s ≡ x.statement
  pub unrefused : (number word : ℕ) → IsRefusedBy card.chars number word → ⊥

-- the card is refused so, for nothing else, and isn't read
pub record IsRefusedAlone (card : PlainCard) (r : Refusal) : Type 0 where
  pub line : r.line ≡ card.line
  pub refused : IsRefusedBy card.chars r.number r.word
  pub only : (number word : ℕ) → IsRefusedBy card.chars number word → card_refusal card number word ≡ r
  pub unread : (s : Statement77) → ReadsStatement card.chars s → ⊥

abbrev pub IsCardRead : PlainCard → Result Labelled Refused → Type 0
IsCardRead card (Ok x) = IsReadAlone card (labelled_of x)
IsCardRead card (Err e) = IfRefusal e (IsRefusedAlone card)

-- ---- cards

abbrev pub AreReadAlone : List PlainCard → List plain.Labelled → Type 0
AreReadAlone [] [] = Unit {0}
AreReadAlone (card ∷ cards) (x ∷ xs) = IsReadAlone card x × AreReadAlone cards xs
AreReadAlone [] (x ∷ xs) = ⊥
AreReadAlone (card ∷ cards) [] = ⊥

-- no refusal of the card comes before this one
abbrev pub IsNotBefore : Refusal → PlainCard → Type 0
IsNotBefore r card = (number word : ℕ) → IsRefusedBy card.chars number word
    → comes_before (card_refusal card number word) r ≡ false

-- the first of the refusals of cards, which aren't all read
pub record IsRefusedFirst (cards : List PlainCard) (r : Refusal) : Type 0 where
  pub card : PlainCard
  pub is_card : Contains cards card
  pub line : r.line ≡ card.line
  pub refused : IsRefusedBy card.chars r.number r.word
  pub unread : (text : List plain.Labelled) → AreReadFrom cards text → ⊥
  pub first : AllByRecursion (IsNotBefore r) cards

abbrev pub AreTried : List PlainCard → List plain.Labelled → Option Refusal → Type 0
AreTried cards text None = AreReadAlone cards text
AreTried cards text (Some r) = IsRefusedFirst cards r

abbrev pub IsTried : List PlainCard → Tried → Type 0
IsTried cards tried = AreTried cards (text_of tried.statements) tried.refusal

abbrev pub first_of : Option Refusal → Refusal → Refusal
first_of None other = other
first_of (Some found) other = if comes_before other found then other else found

abbrev pub AreCardsRead : List PlainCard → Result (List Labelled) Refused → Type 0
AreCardsRead cards (Ok xs) = AreReadAlone cards (text_of xs)
AreCardsRead cards (Err e) = IfRefusal e (IsRefusedFirst cards)
