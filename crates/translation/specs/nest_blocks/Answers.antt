-- The answers to all that was found in a program: its listing, and the blocks that stand in the place of its loops.
use Rattle.std.specs.Prelude.{◌≡◌, ◌≤◌, ⊤, ℕ, Option, Some, List, [], ◌∷◌, ◌++◌, Contains, map}
use Rattle.std.specs.List.{flat_map}
use Rattle.tree.specs.Plain.{Block, Declaration, Program}
use Rattle.find_nests.specs.Found.{InNest, found_in}
use Rattle.listing.specs.declared.programs.counts.Counts.{Counts}
use Rattle.listing.specs.graphs.Lines.{Entry}
use Rattle.listing.specs.graphs.Listing.{lines_of_entries}
use Rattle.translation.specs.loop_numbers.Numbers.{loop_number}
use Rattle.translation.specs.loop_placing.Placing.{block_at}
use Rattle.nest.specs.Plain.{Nest}
use Rattle.listing.specs.programs.Listing.{ListedNest, no_counts}
use Rattle.translation.specs.nest_blocks.LoopAnswers.{LoopAnswer, AreEntriesBy, IsRightLoopAnswer, block_by, found_by}
use Rattle.translation.specs.nest_blocks.LoopAnswers.{made_by, counts_by, nest_by}

-- the answer is for a nest whose outermost loop has this number, and puts the block in the loop's place
pub record Puts (a : LoopAnswer) (k : ℕ) (b : Block) : Type 0 where
  pub nest : Nest
  pub found : found_by a ≡ InNest nest
  pub number : loop_number nest ≡ k
  pub block : block_by a ≡ Some b

-- in the place of each loop stands just what an answer puts there; loops are numbered from 1
pub record ArePlaced (answers : List LoopAnswer) (blocks : List (Option Block)) : Type 0 where
  pub only : (k : ℕ) (b : Block) → 1 ≤ k → block_at blocks k ≡ Some b
      → (a : LoopAnswer) × Contains answers a × Puts a k b
  pub each : (a : LoopAnswer) (k : ℕ) (b : Block) → Contains answers a → Puts a k b → block_at blocks k ≡ Some b

-- each is right behind those before it; masks and copies are numbered through the program
abbrev pub AreRight : Counts → List LoopAnswer → Type 0
AreRight counts [] = ⊤
AreRight counts (a ∷ answers) = IsRightLoopAnswer counts a × AreRight (counts_by counts a) answers

-- one answer to each loop that stands in no nest, in the order of the text
pub record AreAnswers (p : Program) (answers : List LoopAnswer) : Type 0 where
  pub right : AreRight no_counts answers
  pub found : map found_by answers ≡ found_in p

-- what they list, one after the other
abbrev pub AreAllEntriesBy : List LoopAnswer → List Entry → Type 0
AreAllEntriesBy [] es = es ≡ []
AreAllEntriesBy (a ∷ answers) es =
    (first : List Entry) × (rest : List Entry) × (es ≡ first ++ rest) × AreEntriesBy a first
    × AreAllEntriesBy answers rest

-- the nests that they list with a graph
abbrev pub nests_by : List LoopAnswer → List ListedNest
nests_by answers = flat_map nest_by answers

-- what they list, what they put in the place of loops, and how the names that passes made are declared
pub record AreAnswersFor (p : Program) (lines : List (List ℕ)) (blocks : List (Option Block)) (made : List Declaration)
    : Type 0 where
  pub answers : List LoopAnswer
  pub are : AreAnswers p answers
  pub entries : List Entry
  pub listed : AreAllEntriesBy answers entries
  pub lines_are : lines ≡ lines_of_entries entries
  pub placed : ArePlaced answers blocks
  pub made_are : made ≡ flat_map made_by answers
