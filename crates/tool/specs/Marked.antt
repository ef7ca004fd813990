-- That the marked statements of a translation are as its listing has them.
use Rattle.std.specs.Prelude.{ℕ, ◌≡◌, Option, List}
use Rattle.tree.specs.Plain.{Block, Program, block}
use Rattle.meaning.specs.Deck.{source_of, data_line90}
use Rattle.f90_laws.specs.printed.ReadBack.{block_without_numbers}
use Rattle.find_nests.specs.Found.{found_in}
use Rattle.listing.specs.programs.Listing.{ListedNest, listed_nests, no_counts}
use Rattle.listing_laws.specs.reader.Lists.{Lists}
use Rattle.translation.specs.loop_placing.Placing.{placed_in}
use Rattle.translation.specs.program_marks.Marks.{IsMarkedAsListed}
use Rattle.tool.specs.declared.commands.commands.Command.TheVariants.{Vectorise}
use Rattle.tool.specs.Decks.{IsReadAs}
use Rattle.tool.specs.Listings.{listed_lines}
use Rattle.tool.specs.Translates.{IsAccepted}
use Rattle.tree.specs.declared.width.Width.{Width}

-- The statements of q are those of p, on other lines, with a block in the place of the outermost loop of each of these
-- nests; and each statement of these nests is marked, in its block and in q, as the nest's graph and holds have it
pub record IsMarkedBy (p : Program) (ts : List ListedNest) (q : Program) : Type 0 where
  pub blocks : List (Option Block)
  pub body : block_without_numbers q.body ≡ block_without_numbers (block (placed_in blocks 0 p.body))
  pub marked : IsMarkedAsListed ts blocks q.body

-- The deck is read as a program, which the notes of the text list, and the text's source as a program which is marked
-- by the nests that are listed with a graph
pub record IsMarked (width : Width) (deck text : List ℕ) : Type 0 where
  pub program : Program
  pub read : IsReadAs (Vectorise width) deck program
  pub lists : Lists program (listed_lines text)
  pub translation : Program
  pub accepted : IsAccepted (source_of data_line90 text) translation
  pub marked :
      IsMarkedBy program (listed_nests no_counts (found_in program) lists.listing.entries lists.listing.are) translation
