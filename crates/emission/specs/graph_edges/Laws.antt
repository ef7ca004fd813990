-- Laws of the edges of a nest's graph.
use Rattle.std.specs.Prelude.{ℕ, ◌≤◌, List, [], length}
use Rattle.std.specs.List.{range_with_len}
use Rattle.dependence_graph.specs.declared.graphs.Graph.{Graph}
use Rattle.dependence_graph.specs.declared.graphs.Hold.{Hold}
use Rattle.dependence_graph.specs.nest_graph.Graph.{IsGraphOf}
use Rattle.nest_order.specs.orders.Emission.{IsArranged}
use Rattle.nest_order.specs.orders.Lists.{Distinct}
use Rattle.nest_order.specs.orders.Nests.{KeepsEdges}
use Rattle.nest_order.specs.orders.Shapes.{instances_in, statements}
use Rattle.nest_order.specs.shapes.Shapes as nests
use Rattle.nest.specs.Bodies.{loops_of, nest_statements}
use Rattle.nest.specs.Plain.{Nest}
use Rattle.emission.specs.emission_pieces.Emission.{AreEmitted}
use Rattle.emission.specs.emission_pieces.Nests.{loops_at}
use Rattle.emission.specs.emission_pieces.Edges.{AreEdgesOf}
use Rattle.emission.specs.emission_pieces.Pieces.{Pieces}
use Rattle.emission.specs.emission_pieces.Shapes.{edges_of, numbers_at, shapes_of}

-- no statement stands in more loops than a direction vector has places
abbrev pub IsShallow : Nest → Type 0
IsShallow n = (s : ℕ) → length (loops_at n s) ≤ 7

abbrev pub EdgesLeadInNest : Type 0
EdgesLeadInNest = (n : Nest) (g : Graph) → IsShallow n → IsGraphOf n g → AreEdgesOf n g.edges

abbrev pub GraphEmissionKeepsOrder : Type 0
GraphEmissionKeepsOrder =
    (n : Nest) (g : Graph) (holds : List Hold) (ps : Pieces) (trip : ℕ → List ℕ → ℕ)
    → nests.IsPlain n.body → Distinct (nests.numbers_of (loops_of n.body)) → IsShallow n → IsGraphOf n g
    → AreEmitted n g.edges holds 1 (range_with_len 0 (length (nest_statements n))) ps
    → IsArranged (numbers_at n) [] (statements (nests.shape_of 0 n.body)) (shapes_of n 0 ps)
    × KeepsEdges (numbers_at n) trip (nests.shape_of 0 n.body) (edges_of g.edges)
    (instances_in trip (shapes_of n 0 ps) [])
