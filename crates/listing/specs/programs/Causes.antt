-- Why statements stand in loops of what is emitted for the nests that are listed, by the entries of a nest alone.
use Rattle.std.specs.Prelude.{⊤, None, List, [], ◌∷◌}
use Rattle.std.specs.List.{flat_map}
use Rattle.dependence_graph.specs.declared.graphs.Cycle.{Cycle}
use Rattle.dependence_graph.specs.declared.graphs.Edge.{Edge}
use Rattle.dependence_graph.specs.declared.graphs.Hold.{Hold}
use Rattle.emission.specs.emission_causes.Causes.{HaveCauses}
use Rattle.find_nests.specs.Found.{Found, InNest, Kept}
use Rattle.listing.specs.declared.programs.counts.Counts.{Counts}
use Rattle.listing.specs.graphs.Lines.{Entry, NestEntry, LoopEntry, StatementEntry, EdgeEntry, DropEntry, HoldEntry}
use Rattle.listing.specs.graphs.Lines.{CycleEntry, KeepEntry}
use Rattle.listing.specs.programs.Listing.{HaveEntries, counts_of}

-- ---- what is read of the entries of a nest

-- of an edge its statements, its kind and its level
abbrev pub edge_listed : Entry → List Edge
edge_listed (NestEntry n line) = []
edge_listed (LoopEntry n x trip outer) = []
edge_listed (StatementEntry s loops text) = []
edge_listed (EdgeEntry d level test pair) =
    record {
      from = d.from;
      to = d.to;
      kind = d.kind;
      array = d.array;
      dirs = record { len = 0; at = [] };
      level = level;
      test = test;
      pair = None;
    } ∷ []
edge_listed (DropEntry d test) = []
edge_listed (HoldEntry h) = []
edge_listed (CycleEntry level ss) = []
edge_listed (KeepEntry line reason) = []

abbrev pub hold_listed : Entry → List Hold
hold_listed (NestEntry n line) = []
hold_listed (LoopEntry n x trip outer) = []
hold_listed (StatementEntry s loops text) = []
hold_listed (EdgeEntry d level test pair) = []
hold_listed (DropEntry d test) = []
hold_listed (HoldEntry h) = h ∷ []
hold_listed (CycleEntry level ss) = []
hold_listed (KeepEntry line reason) = []

abbrev pub cycle_listed : Entry → List Cycle
cycle_listed (NestEntry n line) = []
cycle_listed (LoopEntry n x trip outer) = []
cycle_listed (StatementEntry s loops text) = []
cycle_listed (EdgeEntry d level test pair) = []
cycle_listed (DropEntry d test) = []
cycle_listed (HoldEntry h) = []
cycle_listed (CycleEntry level ss) = record { level = level; stmts = ss } ∷ []
cycle_listed (KeepEntry line reason) = []

abbrev pub listed_edges : List Entry → List Edge
listed_edges es = flat_map edge_listed es

abbrev pub listed_holds : List Entry → List Hold
listed_holds es = flat_map hold_listed es

abbrev pub listed_cycles : List Entry → List Cycle
listed_cycles es = flat_map cycle_listed es

-- ---- causes

-- of the loops of each nest that is listed, by the edges, holds and cycles among its entries
abbrev pub AreCaused : (counts : Counts) (fs : List Found) (entries : List Entry) → HaveEntries counts fs entries
    → Type 0
AreCaused counts [] entries h = ⊤
AreCaused counts (InNest n ∷ fs) entries h =
    HaveCauses h.3.0 (listed_edges h.0) (listed_holds h.0) (listed_cycles h.0) × AreCaused (counts_of h.3.0) fs h.1 h.4
AreCaused counts (Kept line r ∷ fs) entries h = AreCaused counts fs h.1 h.4
