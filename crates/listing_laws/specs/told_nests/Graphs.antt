-- The graph that the entries of a nest tell: its edges by EDGE entries, its drops by DROP entries, and how many
-- statements it has by STMT entries.
use Rattle.std.specs.Prelude.{ℕ, Option, None, Some, List, [], ◌∷◌, length}
use Rattle.std.specs.List.{flat_map}
use Rattle.dependence_graph.specs.declared.graphs.Dropped.{Dropped}
use Rattle.dependence_graph.specs.declared.graphs.Edge.{Edge}
use Rattle.dependence_graph.specs.declared.graphs.Graph.{Graph}
use Rattle.dependence_graph.specs.nest_graph.Arcs.{in_places, in_point}
use Rattle.listing.specs.graphs.Lines.{Entry, StatementEntry, EdgeEntry, DropEntry, Meeting}
use Rattle.subscripts.specs.declared.verdict.Point.{Point}

abbrev pub statements_told : Entry → List ℕ
statements_told (StatementEntry s loops text) = s ∷ []
statements_told e = []

abbrev pub points_told : Option Meeting → Option (Point × Point)
points_told None = None
points_told (Some m) = Some (in_point m.first, in_point m.second)

abbrev pub edges_told : Entry → List Edge
edges_told (EdgeEntry d level test pair) =
    record {
      from = d.from;
      to = d.to;
      kind = d.kind;
      array = d.array;
      dirs = in_places d.directions;
      level = level;
      test = test;
      pair = points_told pair;
    } ∷ []
edges_told e = []

abbrev pub drops_told : Entry → List Dropped
drops_told (DropEntry d test) =
    record {
      from = d.from;
      to = d.to;
      kind = d.kind;
      array = d.array;
      dirs = in_places d.directions;
      test = test;
    } ∷ []
drops_told e = []

abbrev pub graph_told : List Entry → Graph
graph_told es = record {
  stmts = length (flat_map statements_told es);
  edges = flat_map edges_told es;
  dropped = flat_map drops_told es;
}
