-- That a text lists a deck: all of it, or those of its lines that are notes.
use Rattle.std.specs.Prelude.{ℕ, ◌≡◌, Bool, List, take, filter, flat_map, codes}
use Rattle.std.specs.Str.{bytes_eq}
use Rattle.std.specs.Str.Lines.{lines}
use Rattle.tree.specs.Plain.{Program}
use Rattle.meaning.specs.Deck.{source_of, data_line90}
use Rattle.f90_grammar.specs.PrintedText.{with_line_feed}
use Rattle.listing_laws.specs.reader.Lists.{Lists}
use Rattle.listing_laws.specs.told_nests.Nests.{Tells}
use Rattle.tool.specs.declared.commands.commands.Command.TheVariants.{Graph, Vectorise}
use Rattle.tool.specs.Decks.{IsReadAs}
use Rattle.tree.specs.declared.width.Width.{Width}

-- ---- what `graph` writes

-- The deck is read as a program which the lines of the text list, and whose nests they tell. A line feed ends each
pub record IsListingOf (width : Width) (deck text : List ℕ) : Type 0 where
  pub program : Program
  pub read : IsReadAs (Graph width) deck program
  pub lists : Lists program (lines text)
  pub tells : Tells program (lines text) lists
  pub ended : text ≡ flat_map with_line_feed (lines text)

-- ---- what `vectorise` writes beside the translation

abbrev pub is_listed : List ℕ → Bool
is_listed line = bytes_eq (take 3 line) (codes "!G ")

-- the lines of a text's source that begin so
abbrev pub listed_lines : List ℕ → List (List ℕ)
listed_lines text = filter is_listed (lines (source_of data_line90 text))

-- the deck is read as a program which these lines of the text list
pub record IsListedBeside (width : Width) (deck text : List ℕ) : Type 0 where
  pub program : Program
  pub read : IsReadAs (Vectorise width) deck program
  pub lists : Lists program (listed_lines text)
