-- Which program is read from the cards of a source, and why cards are refused.
use Rattle.std.specs.Prelude.{◌≡◌, ℕ, List, [], ◌∷◌}
use Rattle.std.specs.List.{Contains}
use Rattle.tree.specs.declared.refusals.Refusal.{Refusal}
use Rattle.tree.specs.Plain.{Program}
use Rattle.meaning.specs.Dialect.{Dialect}
use Rattle.reading.specs.refusal_order.Answered.{IsAnswered}
use Rattle.f77_grammar.specs.Cards.{PlainCard, ReadsCards, RefusedCards}
use Rattle.f77_grammar.specs.Statement77.{Labelled}
use Rattle.f77_grammar.specs.statements.Reading.{ReadsStatement, IsRefusedBy}
use Rattle.f77_grammar.specs.program.EndDo.{with_loop_labels}
use Rattle.f77_grammar.specs.program.Program77.{findings, ReadsStatements}

-- ---- the statements of cards

-- the statement has the label and the line of its card, whose characters are read as it
pub record IsReadFrom (card : PlainCard) (x : Labelled) : Type 0 where
  pub label : x.label ≡ card.label
  pub line : x.line ≡ card.line
  pub reads : ReadsStatement card.chars x.statement

-- one statement for each card, in order
abbrev pub AreReadFrom : List PlainCard → List Labelled → Type 0
AreReadFrom [] [] = Unit {0}
AreReadFrom (card ∷ cards) (x ∷ xs) = IsReadFrom card x × AreReadFrom cards xs
AreReadFrom cards xs = ⊥

-- ---- what is read

-- the cards are statements, which are read as the program, each loop with its label
pub record ReadsProgram (d : Dialect) (cards : List PlainCard) (p : Program) : Type 0 where
  pub text : List Labelled
  pub statements : AreReadFrom cards text
  pub reads : ReadsStatements d (with_loop_labels text) p

-- ---- what is refused

-- A cause that holds: the characters of a card are no statement, or the cards are statements in which something is
-- found.
pub data HasCause77 (d : Dialect) (cards : List PlainCard) : Refusal → Type 0 where
  AtCard : (card : PlainCard) (number word : ℕ) → Contains cards card → IsRefusedBy card.chars number word
      → HasCause77 d cards (record { number = number; line = card.line; word = word })
  InText : (text : List Labelled) (r : Refusal) → AreReadFrom cards text
      → Contains (findings d (with_loop_labels text)) r → HasCause77 d cards r

abbrev pub RefusedProgram : Dialect → List PlainCard → Refusal → Type 0
RefusedProgram d cards = IsAnswered (HasCause77 d cards)

-- ---- a source

-- its cards are read as the program
pub record Reads77 (d : Dialect) (source : List ℕ) (p : Program) : Type 0 where
  pub cards : List PlainCard
  pub are_cards : ReadsCards source cards
  pub program : ReadsProgram d cards p

-- It is refused for its length or a line, or else its cards are refused.
pub data Refused77 (d : Dialect) (source : List ℕ) (r : Refusal) : Type 0 where
  OfLines : RefusedCards source r → Refused77 d source r
  OfCards : (cards : List PlainCard) → ReadsCards source cards → RefusedProgram d cards r → Refused77 d source r
