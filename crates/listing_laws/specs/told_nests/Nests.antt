-- What the entries of a listing tell of the nests of its program.
use Rattle.std.specs.Prelude.{◌≡◌, ℕ, Contains, List, [], ◌∷◌}
use Rattle.array_form.specs.holds.Holds.{all_holds}
use Rattle.dependence_graph.specs.nest_graph.Graph.{IsGraphOf}
use Rattle.dependence_graph.specs.nest_graph.Pair.{Candidate, HasPair}
use Rattle.dependence_graph.specs.nest_graph.Vectors.{StandsFor}
use Rattle.find_nests.specs.Found.{Found, InNest, Kept, found_in}
use Rattle.listing.specs.declared.programs.counts.Counts.{Counts}
use Rattle.listing.specs.graphs.Lines.{Dependence, DropEntry, Entry}
use Rattle.listing.specs.programs.Causes.{listed_holds}
use Rattle.listing.specs.programs.Listing.{HaveEntries, ListedNest, counts_behind, counts_of, no_counts}
use Rattle.listing_laws.specs.reader.Lists.{Lists}
use Rattle.listing_laws.specs.told_nests.Graphs.{graph_told}
use Rattle.listing_laws.specs.told_nests.Parts.{AreCutInto}
use Rattle.nest.specs.Plain.{Nest}
use Rattle.subscripts.specs.declared.affine.Dir.{Dir}
use Rattle.subscripts.specs.declared.verdict.Test.{Test}
use Rattle.tree.specs.Plain.{Program}

-- a nest as it stands in the program, the nest that passes make of it, and what is listed of that one
pub record ToldNest : Type 0 where
  pub found : Nest
  pub last : Nest
  pub entries : List Entry

-- with the graph that its entries tell
abbrev pub by_entries : ToldNest → ListedNest
by_entries t = record { found = t.found; normal = t.last; graph = graph_told t.entries }

-- ---- of a listing

-- the entries of each nest and kept loop
abbrev pub parts_told : (counts : Counts) (fs : List Found) (entries : List Entry) → HaveEntries counts fs entries
    → List (List Entry)
parts_told counts [] entries h = []
parts_told counts (f ∷ fs) entries h = h.0 ∷ parts_told (counts_behind counts f h.0 h.3) fs h.1 h.4

-- the nests among them
abbrev pub nests_told : (counts : Counts) (fs : List Found) (entries : List Entry) → HaveEntries counts fs entries
    → List ToldNest
nests_told counts [] entries h = []
nests_told counts (InNest n ∷ fs) entries h =
    record { found = n; last = h.3.0; entries = h.0 } ∷ nests_told (counts_of h.3.0) fs h.1 h.4
nests_told counts (Kept line r ∷ fs) entries h = nests_told counts fs h.1 h.4

module _ (p : Program) (lines : List (List ℕ)) (l : Lists p lines) where
  abbrev pub parts_listed : List (List Entry)
  parts_listed = parts_told no_counts (found_in p) l.listing.entries l.listing.are

  abbrev pub nests_listed : List ToldNest
  nests_listed = nests_told no_counts (found_in p) l.listing.entries l.listing.are

-- ---- what they tell

-- the two references of a dependence, in this vector
abbrev pub candidate_told : Dependence → List Dir → Candidate
candidate_told d v = record { from = d.from; to = d.to; kind = d.kind; vector = v }

-- Cut before each NEST and KEEP entry, the entries are those of the nests and kept loops. Those of a nest tell a graph
-- of it, and its holds. No candidate for which a DROP entry stands has a pair of iterations within the bounds
pub record Tells (p : Program) (lines : List (List ℕ)) (l : Lists p lines) : Type 0 where
  pub cut : AreCutInto l.listing.entries (parts_listed p lines l)
  pub graphs : (t : ToldNest) → Contains (nests_listed p lines l) t → IsGraphOf t.last (graph_told t.entries)
  pub holds : (t : ToldNest) → Contains (nests_listed p lines l) t → listed_holds t.entries ≡ all_holds t.last
  pub dropped :
      (t : ToldNest) (d : Dependence) (w : Test) (v : List Dir)
      → Contains (nests_listed p lines l) t → Contains t.entries (DropEntry d w) → StandsFor d.directions v
      → HasPair t.last (candidate_told d v) → ⊥
