-- The entries of a listing tell its graphs.
use Rattle.std.specs.Prelude.{◌≡◌, ℕ, List, map}
use Rattle.dependence_graph.specs.declared.graphs.Cycle.{Cycle}
use Rattle.dependence_graph.specs.declared.graphs.Edge.{Edge}
use Rattle.dependence_graph.specs.declared.graphs.Graph.{Graph}
use Rattle.dependence_graph.specs.declared.graphs.Hold.{Hold}
use Rattle.dependence_graph.specs.nest_graph.Graph.{IsGraphOf}
use Rattle.emission.specs.emission_pieces.Cycles.{AreCyclesOf}
use Rattle.find_nests.specs.Found.{found_in}
use Rattle.listing.specs.graphs.Listing.{entries_of}
use Rattle.listing.specs.programs.Listing.{IsListing, listed_nests, no_counts}
use Rattle.listing_laws.specs.reader.Lists.{Lists}
use Rattle.listing_laws.specs.told_nests.Graphs.{graph_told}
use Rattle.listing_laws.specs.told_nests.Nests.{Tells, by_entries, nests_told}
use Rattle.nest.specs.Plain.{Nest}
use Rattle.tree.specs.Plain.{Program}

-- they tell the graph that was listed
abbrev pub GraphIsTold : Type 0
GraphIsTold = (n : Nest) (number : ℕ) (g : Graph) (holds : List Hold) (cycles : List Cycle) → IsGraphOf n g
    → graph_told (entries_of n number g holds cycles) ≡ g

-- so in a whole listing, nest by nest
abbrev pub NestsAreTold : Type 0
NestsAreTold = (p : Program) (lines : List (List ℕ)) (l : IsListing p lines)
    → map by_entries (nests_told no_counts (found_in p) l.entries l.are)
    ≡ listed_nests no_counts (found_in p) l.entries l.are

-- and lines that list a program tell its nests
abbrev pub LinesTellNests : Type 0
LinesTellNests = (p : Program) (lines : List (List ℕ)) (l : Lists p lines) → Tells p lines l

-- there is one list of cycles of a nest by its edges and holds
abbrev pub CyclesAreUnique : Type 0
CyclesAreUnique = (n : Nest) (edges : List Edge) (holds : List Hold) (cs ds : List Cycle)
    → AreCyclesOf n edges holds cs → AreCyclesOf n edges holds ds → cs ≡ ds
