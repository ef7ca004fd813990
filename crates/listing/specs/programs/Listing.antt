-- The listing of a program: its kept loops with their reasons, and its nests with their dependences and holds.
use Rattle.std.specs.Prelude.{◌≡◌, ℕ, List, [], ◌∷◌, ◌++◌, codes}
use Rattle.std.specs.List.{flat_map}
use Rattle.tree.specs.Plain.{Program}
use Rattle.nest.specs.Plain.{Nest}
use Rattle.find_nests.specs.Found.{Found, InNest, Kept, found_in}
use Rattle.find_nests.specs.declared.reasons.Reason.{Reason}
use Rattle.find_nests.specs.declared.reasons.Reason.TheVariants.{Exit, InnerIf, Bound, Step, Deep, Large}
use Rattle.dependence_graph.specs.declared.graphs.Cycle.{Cycle}
use Rattle.dependence_graph.specs.declared.graphs.Graph.{Graph}
use Rattle.dependence_graph.specs.nest_graph.Graph.{IsGraphOf}
use Rattle.array_form.specs.holds.Holds.{all_holds}
use Rattle.emission.specs.emission_pieces.Cycles.{AreCyclesOf}
use Rattle.f90_grammar.specs.PrintedText.{with_line_feed}
use Rattle.listing.specs.declared.programs.counts.Counts.{Counts}
use Rattle.listing.specs.graphs.Lines.{Entry, KeepEntry}
use Rattle.listing.specs.graphs.Listing.{entries_of, lines_of_entries}
use Rattle.listing.specs.programs.Stages.{IsLastGraph, IsListedFrom}

-- why a loop is kept
abbrev pub reason_word : Reason → List ℕ
reason_word Exit = codes "EXIT"
reason_word InnerIf = codes "INNERIF"
reason_word Bound = codes "BOUND"
reason_word Step = codes "STEP"
reason_word Deep = codes "DEEP"
reason_word Large = codes "LARGE"

-- ---- nests

-- with this number, by its graph, all its holds, and these cycles
abbrev pub tested_entries : ℕ → Nest → Graph → List Cycle → List Entry
tested_entries number n g cs = entries_of n number g (all_holds n) cs

-- the cycles are those of what is emitted for the nest by this graph and all its holds
pub record HasCycleEntries (number : ℕ) (n : Nest) (g : Graph) (entries : List Entry) : Type 0 where
  pub cycles : List Cycle
  pub cycles_are : AreCyclesOf n g.edges (all_holds n) cycles
  pub entries_are : entries ≡ tested_entries number n g cycles

-- by a graph of the nest, of which this holds
abbrev pub HasGraphEntries : ℕ → Nest → (Graph → Type 0) → List Entry → Type 0
HasGraphEntries number n P entries = (g : Graph) × IsGraphOf n g × HasCycleEntries number n g entries × P g

-- A nest is listed by a graph of the last nest that passes make of it, where so much was made before in the program.
-- Where the last pass moves no loop, it is the graph by which none was moved
abbrev pub HasNestEntries : Counts → Nest → List Entry → Type 0
HasNestEntries counts n entries =
    (m : Nest) × (h : IsListedFrom counts n m)
    × HasGraphEntries n.number m (IsLastGraph h.stages.split h.stages.graph) entries

-- a kept loop
abbrev pub kept_loop_entry : ℕ → Reason → List Entry
kept_loop_entry line r = KeepEntry line (reason_word r) ∷ []

-- ---- programs

abbrev pub HasEntries : Counts → Found → List Entry → Type 0
HasEntries counts (InNest n) entries = HasNestEntries counts n entries
HasEntries counts (Kept line r) entries = entries ≡ kept_loop_entry line r

-- how many masks and copies are made before the first nest of a program
abbrev pub no_counts : Counts
no_counts = record { masks = 0; copies = 0 }

-- and by the end of the last nest that passes make of one
abbrev pub counts_of : Nest → Counts
counts_of m = record { masks = m.masks; copies = m.copies }

-- up to the end of what is listed so
abbrev pub counts_behind : (counts : Counts) (f : Found) (entries : List Entry) → HasEntries counts f entries → Counts
counts_behind counts (InNest n) entries h = counts_of h.0
counts_behind counts (Kept line r) entries h = counts

-- one after the other
abbrev pub HaveEntries : Counts → List Found → List Entry → Type 0
HaveEntries counts [] entries = entries ≡ []
HaveEntries counts (f ∷ fs) entries =
    (first : List Entry) × (rest : List Entry) × (entries ≡ first ++ rest) × (h : HasEntries counts f first)
    × HaveEntries (counts_behind counts f first h) fs rest

-- ---- the nests that are listed with a graph

-- a nest as it stands in the program, the nest that is made of it, and the graph of that
pub record ListedNest : Type 0 where
  pub found : Nest
  pub normal : Nest
  pub graph : Graph

abbrev pub listed_nest : (counts : Counts) (n : Nest) (entries : List Entry) → HasNestEntries counts n entries
    → ListedNest
listed_nest counts n entries h = record { found = n; normal = h.0; graph = h.2.0 }

-- in the order of the listing
abbrev pub listed_nests : (counts : Counts) (fs : List Found) (entries : List Entry) → HaveEntries counts fs entries
    → List ListedNest
listed_nests counts [] entries h = []
listed_nests counts (InNest n ∷ fs) entries h =
    listed_nest counts n h.0 h.3 ∷ listed_nests (counts_of h.3.0) fs h.1 h.4
listed_nests counts (Kept line r ∷ fs) entries h = listed_nests counts fs h.1 h.4

-- ---- lines

-- lines of entries of which this holds
pub record AreLinesOf (P : List Entry → Type 0) (lines : List (List ℕ)) : Type 0 where
  pub entries : List Entry
  pub are : P entries
  pub lines_are : lines ≡ lines_of_entries entries

-- each loop of the program that stands in no nest, in the order of the text; masks and copies are numbered through
-- the program
abbrev pub IsListing : Program → List (List ℕ) → Type 0
IsListing p lines = AreLinesOf (HaveEntries no_counts (found_in p)) lines

-- a line feed ends each line
pub record IsListingText (p : Program) (text : List ℕ) : Type 0 where
  pub lines : List (List ℕ)
  pub listing : IsListing p lines
  pub text_is : text ≡ flat_map with_line_feed lines
