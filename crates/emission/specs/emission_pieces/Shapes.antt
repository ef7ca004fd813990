-- A nest with its graph, and what is emitted for it, as shapes and edges, of which the laws of orders speak.
use Rattle.std.specs.Prelude.{ℕ, zero, suc, List, map, drop}
use Rattle.dependence_graph.specs.declared.graphs.Edge.{Edge as Edge'}
use Rattle.nest_order.specs.orders.Nests.{Level, Carried, Independent, Edge}
use Rattle.nest_order.specs.orders.Shapes.{Shape, Single, Loop as Loop', Shapes, no_shapes, shape}
use Rattle.nest_order.specs.runs.Alone.{chain}
use Rattle.nest.specs.Plain.{Loop, Nest}
use Rattle.emission.specs.emission_pieces.Nests.{loops_at}
use Rattle.emission.specs.emission_pieces.Pieces.{Piece, Kept, Formed, Turning, Pieces, no_pieces, piece}

-- loops count from 0 here: so many loops stand round the one that carries an edge
abbrev pub level_of : ℕ → Level
level_of zero = Independent
level_of (suc m) = Carried m

abbrev pub edge_of : Edge' → Edge
edge_of e = record { from = e.from.stmt; to = e.to.stmt; level = level_of e.level }

abbrev pub edges_of : List Edge' → List Edge
edges_of es = map edge_of es

-- the numbers of the loops round a statement, from the outside in
abbrev pub numbers_at : Nest → ℕ → List ℕ
numbers_at n s = map (λ (l : Loop). l.number) (loops_at n s)

-- with d loops round it; a statement in array form stands for itself in its further loops
module _ (n : Nest) where
  abbrev mutual
    pub shape_of : ℕ → Piece → Shape
    shape_of d (Kept s) = Single s
    shape_of d (Formed s) = chain (drop d (numbers_at n s)) s
    shape_of d (Turning l ps) = Loop' l.number (shapes_of (suc d) ps)

    pub shapes_of : ℕ → Pieces → Shapes
    shapes_of d no_pieces = no_shapes
    shapes_of d (piece p ps) = shape (shape_of d p) (shapes_of d ps)
