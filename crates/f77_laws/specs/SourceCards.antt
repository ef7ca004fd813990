-- Cards of a source (ANSI X3.9-1978, section 3), and that what they are read as is such as cards give.
use Rattle.std.specs.Prelude.{ℕ, ◌<◌, ◌≤◌, List, [], ◌∷◌}
use Rattle.std.specs.Option.{IfSome}
use Rattle.std.specs.List.{AllByRecursion}
use Rattle.tree.specs.Limits.{source_bytes}
use Rattle.f77_grammar.specs.Cards.{PlainCard, ReadsCards}
use Rattle.f77_grammar.specs.Statement77.{Statement77, Labelled}
use Rattle.f77_grammar.specs.statements.Reading.{ReadsStatement}
use Rattle.f77_grammar.specs.program.EndDo.{with_loop_labels}
use Rattle.f77_grammar.specs.program.Labels.{label_named}
use Rattle.f77_laws.specs.Source.{IsSourceLabel, IsSourceStatement, AreSourceStatements}
use Rattle.f77_grammar.specs.Reading77.{AreReadFrom}
use Rattle.f77_laws.specs.Reading.{HasFewStatements}

-- characters that a card may hold
abbrev pub AreCardCharacters : List ℕ → Type 0
AreCardCharacters chars = AllByRecursion (λ c. (32 ≤ c) × (c ≤ 126)) chars

abbrev pub ReadStatementIsSource : Type 0
ReadStatementIsSource = (chars : List ℕ) (s : Statement77) → AreCardCharacters chars → ReadsStatement chars s
    → IsSourceStatement s × IfSome (label_named s) IsSourceLabel

-- ---- cards

-- its line is one of those that a source within the limit of bytes has
pub record IsCard (card : PlainCard) : Type 0 where
  pub characters : AreCardCharacters card.chars
  pub label : IfSome card.label IsSourceLabel
  pub first : 1 ≤ card.line
  pub last : card.line ≤ source_bytes

-- each card stands on a later line than those before it
abbrev pub AreRisingCards : List PlainCard → Type 0
AreRisingCards [] = Unit {0}
AreRisingCards (x ∷ xs) = AllByRecursion (λ (y : PlainCard). x.line < y.line) xs × AreRisingCards xs

pub record HasCards (cards : List PlainCard) : Type 0 where
  pub each : AllByRecursion IsCard cards
  pub rising : AreRisingCards cards

abbrev pub ReadSourceHasCards : Type 0
ReadSourceHasCards = (text : List ℕ) (cards : List PlainCard) → ReadsCards text cards → HasCards cards

-- ---- the statements of cards

pub record AreSource (text : List Labelled) : Type 0 where
  pub statements : AreSourceStatements text
  pub few : HasFewStatements text

-- and so are they with the labels of their loops
pub record AreOfSource (text : List Labelled) : Type 0 where
  pub written : AreSource text
  pub labels : AllByRecursion (λ (x : Labelled). IfSome x.label IsSourceLabel) text
  pub labelled : AreSource (with_loop_labels text)

abbrev pub ReadCardsAreSource : Type 0
ReadCardsAreSource = (text : List ℕ) (cards : List PlainCard) (ss : List Labelled) → ReadsCards text cards
    → AreReadFrom cards ss → AreOfSource ss
