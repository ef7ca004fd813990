-- What `vectorise` writes.
use Rattle.std.specs.Prelude.{ℕ, ◌≡◌, Bool, true, false, List, [], ◌∷◌, ◌++◌}
use Rattle.tree.specs.Plain.{Program}
use Rattle.meaning.specs.Deck.{has_data, input_of, data_line77, data_line90}
use Rattle.f90_grammar.specs.PrintedText.{printed90}
use Rattle.translation.specs.Translated.{IsVectorised}
use Rattle.tool.specs.declared.commands.commands.Command.TheVariants.{Vectorise}
use Rattle.tool.specs.declared.report.outcome.Outcome.{Outcome}
use Rattle.tool.specs.declared.report.outcome.Outcome.TheVariants.{Refused, OutOfMemory}
use Rattle.tool.specs.Decks.{IsReadAs, IsRefusedFor}
use Rattle.tree.specs.declared.width.Width.{Width}

-- where the deck has a data line, so has the translation, and the input behind it is the same bytes
abbrev pub data_part : Bool → List ℕ → List ℕ
data_part false input = []
data_part true input = data_line90 ++ 10 ∷ input

-- the listing of p as notes, what p is translated to by the graphs in it, as it is printed, and then the input
pub record IsTranslationText (p : Program) (there : Bool) (input text : List ℕ) : Type 0 where
  pub notes : List (List ℕ)
  pub translated : Program
  pub is : IsVectorised p notes translated
  pub printed : text ≡ printed90 translated notes ++ data_part there input

-- the deck is read as a program of which this is the text of a translation
pub record IsTranslationOf (width : Width) (deck text : List ℕ) : Type 0 where
  pub program : Program
  pub read : IsReadAs (Vectorise width) deck program
  pub written : IsTranslationText program (has_data data_line77 deck) (input_of data_line77 deck) text

-- the deck is refused, or there is no memory
abbrev pub IsUntranslated : (width : Width) → List ℕ → Outcome → Type 0
IsUntranslated width deck (Refused r) = IsRefusedFor (Vectorise width) r deck
IsUntranslated width deck OutOfMemory = Unit {0}
IsUntranslated width deck _ = ⊥
