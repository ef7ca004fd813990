-- How a translation is laid out.
use Rattle.std.specs.Prelude.{ℕ, List}
use Rattle.tree.specs.Plain.{Program}
use Rattle.meaning.specs.Deck.{has_data, input_of, data_line77}
use Rattle.tool.specs.declared.commands.commands.Command.TheVariants.{Vectorise}
use Rattle.tool.specs.Decks.{IsReadAs}
use Rattle.tool.specs.Translation.{IsTranslationText}
use Rattle.tree.specs.declared.width.Width.{Width}

-- the deck is read as a program, and the text is what is printed of its listing and of what is emitted by that for its
-- nests, with the deck's input behind it
pub record IsPrinted (width : Width) (deck text : List ℕ) : Type 0 where
  pub program : Program
  pub read : IsReadAs (Vectorise width) deck program
  pub text_is : IsTranslationText program (has_data data_line77 deck) (input_of data_line77 deck) text
