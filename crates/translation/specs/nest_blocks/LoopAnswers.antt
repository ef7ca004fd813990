-- What is said of a loop that was found, and what stands in its place.
use Rattle.std.specs.Prelude.{◌≡◌, ⊤, ℕ, Option, None, Some, List, [], ◌∷◌, length, map}
use Rattle.std.specs.List.{range_with_len}
use Rattle.tree.specs.Plain.{Block, Declaration}
use Rattle.dependence_graph.specs.declared.graphs.Graph.{Graph}
use Rattle.emission.specs.emission_pieces.Emission.{AreEmitted}
use Rattle.emission.specs.emission_pieces.Pieces.{Pieces, translation}
use Rattle.find_nests.specs.Found as found
use Rattle.find_nests.specs.Found.{Found, InNest}
use Rattle.find_nests.specs.declared.reasons.Reason.{Reason}
use Rattle.listing.specs.declared.programs.counts.Counts.{Counts}
use Rattle.listing.specs.graphs.Lines.{Entry}
use Rattle.listing.specs.graphs.Listing.{lines_of_entries}
use Rattle.dependence_graph.specs.nest_graph.Graph.{IsGraphOf}
use Rattle.nest.specs.Bodies.{nest_statements}
use Rattle.nest.specs.Plain.{Nest}
use Rattle.array_form.specs.holds.Holds.{all_holds}
use Rattle.listing.specs.programs.Listing.{HasCycleEntries, ListedNest, counts_of, kept_loop_entry}
use Rattle.listing.specs.programs.Passed.{IsPassedAs}
use Rattle.listing.specs.programs.Stages.{IsLastGraph}
use Rattle.translation.specs.made_declarations.Declaring.{declaration_of_made}

pub data LoopAnswer : Type 0 where
  -- a nest, the nest that passes make of it, the graph of that, and the pieces that are emitted
  Translated : Nest → Nest → Graph → Pieces → LoopAnswer
  -- a kept loop, by its line and its reason
  Kept : ℕ → Reason → LoopAnswer

-- to what it is the answer
abbrev pub found_by : LoopAnswer → Found
found_by (Translated n m g ps) = InNest n
found_by (Kept line r) = found.Kept line r

-- what is listed: of a nest its graph, its holds and its cycles
abbrev pub AreEntriesBy : LoopAnswer → List Entry → Type 0
AreEntriesBy (Translated n m g ps) es = HasCycleEntries n.number m g es
AreEntriesBy (Kept line r) es = es ≡ kept_loop_entry line r

-- the nest that is listed with a graph, if it is one
abbrev pub nest_by : LoopAnswer → List ListedNest
nest_by (Translated n m g ps) = record { found = n; normal = m; graph = g } ∷ []
nest_by (Kept line r) = []

-- what stands in its place, if not itself
abbrev pub block_by : LoopAnswer → Option Block
block_by (Translated n m g ps) = Some (translation m ps)
block_by (Kept line r) = None

-- how the names that passes made for it are declared
abbrev pub made_by : LoopAnswer → List Declaration
made_by (Translated n m g ps) = map declaration_of_made m.made
made_by (Kept line r) = []

-- what is made in the program with what is made for it
abbrev pub counts_by : Counts → LoopAnswer → Counts
counts_by counts (Translated n m g ps) = counts_of m
counts_by counts (Kept line r) = counts

-- One graph of the nest is listed, and by it and all holds of the nest the pieces are emitted. Where the last pass
-- moves no loop, it is the graph by which none was moved
pub record IsTranslation (counts : Counts) (n m : Nest) (g : Graph) (ps : Pieces) : Type 0 where
  pub passed : IsPassedAs counts n m
  pub graph : IsGraphOf m g
  pub kept : IsLastGraph passed.split passed.graph g
  pub emitted : AreEmitted m g.edges (all_holds m) 1 (range_with_len 0 (length (nest_statements m))) ps

-- each nest is translated as what passes make of it, after so much
abbrev pub IsRightLoopAnswer : Counts → LoopAnswer → Type 0
IsRightLoopAnswer counts (Translated n m g ps) = IsTranslation counts n m g ps
IsRightLoopAnswer counts (Kept line r) = ⊤

-- lines of a listing, a block, if there is one, the declarations of made names, and what is made by then
pub record IsAnswerTo (counts : Counts) (f : Found) (lines : List (List ℕ)) (block : Option Block)
    (made : List Declaration) (next : Counts) : Type 0 where
  pub answer : LoopAnswer
  pub right : IsRightLoopAnswer counts answer
  pub found : found_by answer ≡ f
  pub entries : List Entry
  pub listed : AreEntriesBy answer entries
  pub lines_are : lines ≡ lines_of_entries entries
  pub block_is : block ≡ block_by answer
  pub made_are : made ≡ made_by answer
  pub counts_are : next ≡ counts_by counts answer
