-- Laws of the answers to what was found in a program.
use Rattle.std.specs.Prelude.{◌≡◌, ℕ, Option, List}
use Rattle.tree.specs.Plain.{Block, Declaration, Program}
use Rattle.find_nests.specs.Found.{found_in}
use Rattle.meaning.specs.Dialect.{fortran77}
use Rattle.tree.specs.declared.width.Width.{Width}
use Rattle.meaning.specs.Profile77.{IsProgram77}
use Rattle.listing.specs.programs.Listing.{IsListing, listed_nests, no_counts}
use Rattle.translation.specs.nest_blocks.Answers.{AreAnswersFor, nests_by}
use Rattle.translation.specs.nest_blocks.Blocks.{AreNestBlocks}

-- the lines are a listing of the program, with the answers' graphs
abbrev pub AnswersAreListed : Type 0
AnswersAreListed = (p : Program) (lines : List (List ℕ)) (blocks : List (Option Block)) (made : List Declaration)
    → (h : AreAnswersFor p lines blocks made)
    → (l : IsListing p lines) × (listed_nests no_counts (found_in p) l.entries l.are ≡ nests_by h.answers)

-- the blocks are translations of its nests
abbrev pub AnswersAreBlocks : (width : Width) → Type 0
AnswersAreBlocks width = (p : Program) (lines : List (List ℕ)) (blocks : List (Option Block)) (made : List Declaration)
    → IsProgram77 (fortran77 width) p → AreAnswersFor p lines blocks made → AreNestBlocks p blocks made
