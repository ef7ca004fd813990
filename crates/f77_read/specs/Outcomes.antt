-- What the answer of a building says of the statements or cards.
use Rattle.std.specs.Prelude.{◌≡◌, ◌≤◌, Result, Ok, Err, List, []}
use Rattle.tree.specs.declared.refusals.Refusal.{Refusal}
use Rattle.tree.specs.declared.refusals.Refused.{Refused}
use Rattle.tree.specs.declared.programs.Program77.{Program77}
use Rattle.tree.specs.View.{program_of}
use Rattle.f77_grammar.specs.Cards.{PlainCard}
use Rattle.f77_grammar.specs.Statement77.{Labelled}
use Rattle.f77_grammar.specs.program.EndDo.{with_loop_labels}
use Rattle.f77_grammar.specs.program.Program77.{findings, ReadsStatements, RefusedStatements}
use Rattle.f77_laws.specs.Source.{AreRising}
use Rattle.meaning.specs.Dialect.{fortran77}
use Rattle.tree.specs.declared.width.Width.{Width}
use Rattle.f77_checks.specs.Outcomes.{IfRefusal}
use Rattle.f77_read.specs.Cards.{AreReadAlone, IsRefusedFirst}

-- something is found in the statements, and this refusal is the first where lines rise
pub record IsRefusedText (width : Width) (text : List Labelled) (r : Refusal) : Type 0 where
  pub number : 10 ≤ r.number
  pub unsound : findings (fortran77 width) text ≡ [] → ⊥
  pub first : AreRising text → RefusedStatements (fortran77 width) text r

abbrev pub IsTextBuilt : (width : Width) → List Labelled → Result Program77 Refused → Type 0
IsTextBuilt width text (Ok p) = ReadsStatements (fortran77 width) text (program_of p)
IsTextBuilt width text (Err e) = IfRefusal e (IsRefusedText width text)

-- the program of the statements that the cards are read as, each loop with its label
pub record IsProgramOf (width : Width) (cards : List PlainCard) (p : Program77) : Type 0 where
  pub text : List Labelled
  pub statements : AreReadAlone cards text
  pub reads : ReadsStatements (fortran77 width) (with_loop_labels text) (program_of p)

-- a card is refused, or the text of the cards
pub data IsRefusalOf (width : Width) (cards : List PlainCard) (r : Refusal) : Type 0 where
  OfCard : IsRefusedFirst cards r → IsRefusalOf width cards r
  OfText : (text : List Labelled) → AreReadAlone cards text → IsRefusedText width (with_loop_labels text) r
      → IsRefusalOf width cards r

abbrev pub AreCardsBuilt : (width : Width) → List PlainCard → Result Program77 Refused → Type 0
AreCardsBuilt width cards (Ok p) = IsProgramOf width cards p
AreCardsBuilt width cards (Err e) = IfRefusal e (IsRefusalOf width cards)
