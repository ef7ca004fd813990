-- Laws of what is emitted.
use Rattle.std.specs.Prelude.{ℕ, suc, List, [], length}
use Rattle.std.specs.List.{range_with_len}
use Rattle.dependence_graph.specs.declared.graphs.Edge.{Edge}
use Rattle.dependence_graph.specs.declared.graphs.Hold.{Hold}
use Rattle.nest_order.specs.orders.Emission.{IsEmitted, IsArranged}
use Rattle.nest_order.specs.orders.Lists.{Distinct}
use Rattle.nest_order.specs.orders.Nests.{KeepsEdges}
use Rattle.nest_order.specs.orders.Shapes.{instances_in, statements}
use Rattle.nest_order.specs.shapes.Shapes as nests
use Rattle.nest.specs.Bodies.{loops_of, nest_statements}
use Rattle.nest.specs.Plain.{Nest}
use Rattle.emission.specs.emission_pieces.Emission.{AreEmitted}
use Rattle.emission.specs.emission_pieces.Edges.{AreEdgesOf}
use Rattle.emission.specs.emission_pieces.Pieces.{Pieces}
use Rattle.emission.specs.emission_pieces.Shapes.{edges_of, numbers_at, shapes_of}

-- The pieces that are emitted for some statements within d loops are, as shapes, what recursive emission gives for them
abbrev pub PiecesAreEmitted : Type 0
PiecesAreEmitted = (n : Nest) (edges : List Edge) (holds : List Hold) (d : ℕ) (part : List ℕ) (ps : Pieces)
    → Distinct part → AreEmitted n edges holds (suc d) part ps
    → IsEmitted (numbers_at n) (edges_of edges) d part (shapes_of n d ps)

-- So what is emitted for a nest has each of its statements once, in the statement's own loops, and the order of its
-- instances keeps the edges
abbrev pub EmissionKeepsOrder : Type 0
EmissionKeepsOrder =
    (n : Nest) (edges : List Edge) (holds : List Hold) (ps : Pieces) (trip : ℕ → List ℕ → ℕ)
    → nests.IsPlain n.body → Distinct (nests.numbers_of (loops_of n.body)) → AreEdgesOf n edges
    → AreEmitted n edges holds 1 (range_with_len 0 (length (nest_statements n))) ps
    → IsArranged (numbers_at n) [] (statements (nests.shape_of 0 n.body)) (shapes_of n 0 ps)
    × KeepsEdges (numbers_at n) trip (nests.shape_of 0 n.body) (edges_of edges)
    (instances_in trip (shapes_of n 0 ps) [])
