-- Laws of the edges of a nest's graph as orders have them.
use Rattle.std.specs.Prelude.{◌≡◌, map}
use Rattle.dependence_graph.specs.declared.graphs.Graph.{Graph}
use Rattle.emission.specs.emission_pieces.Shapes.{edges_of}
use Rattle.dependence_graph.specs.nest_graph.Graph.{IsGraphOf}
use Rattle.dependence_graph.specs.nest_graph.Ready.{IsReady}
use Rattle.nest_order.specs.orders.Graphs.{edge_of}
use Rattle.nest_order.specs.runs.Stores.{IsNestText}
use Rattle.nest_order.specs.runs.Touched.{AreEdgesOf}
use Rattle.nest_order.specs.shapes.Shapes.{IsPlain}
use Rattle.nest.specs.Plain.{Nest}
use Rattle.emission.specs.graph_orders.Arcs.{arcs_of}
use Rattle.emission.specs.graph_orders.Nests.{run_nest}

-- The edges of the graph of a nest of loops and statements alone stand for each two instances that may touch a common
-- cell of which one is written
abbrev pub GraphHasEdges : Type 0
GraphHasEdges = (n : Nest) (g : Graph)
    → IsPlain n.body → IsNestText (run_nest n) → IsReady n → IsGraphOf n g
    → AreEdgesOf (run_nest n) (arcs_of g.edges)

-- and each of them has the level that is listed
abbrev pub ArcsAreEdges : Type 0
ArcsAreEdges = (n : Nest) (g : Graph) → IsReady n → IsGraphOf n g
    → map edge_of (arcs_of g.edges) ≡ edges_of g.edges
