-- The classes that recursive emission of a nest asks for, as the strongly connected components of a relation of numbers
-- (Allen and Kennedy, "Optimizing Compilers for Modern Architectures", section 2.4; Tarjan, "Depth-first search and
-- linear graph algorithms", 1972).
use Rattle.std.specs.Prelude.{◌↔◌, ◌<◌, ℕ, List, length, slice_index}
use Rattle.components.specs.Emission.{statements_of_classes}
use Rattle.components.specs.Lists.{IsMember}
use Rattle.components.specs.Orders.{IsOrder}
use Rattle.nest_order.specs.orders.Emission.{Leap, Components}
use Rattle.nest_order.specs.orders.Lists.{Distinct}
use Rattle.nest_order.specs.orders.Nests.{Edge}

-- the places of a part's statements, paired where an edge that no one of the first d loops carries leads from one of
-- these statements to the other
abbrev pub ArePairsOf : List Edge → ℕ → List ℕ → List (ℕ × ℕ) → Type 0
ArePairsOf edges d part pairs =
    (i j : ℕ)
    → IsMember (i, j) pairs
    ↔ ((i < length part) × (j < length part) × Leap edges d (slice_index part i) (slice_index part j))

-- the components of these pairs, in topological order, are classes as recursive emission asks for
abbrev pub OrderIsComponents : Type 0
OrderIsComponents =
    (edges : List Edge) (d : ℕ) (part : List ℕ) (pairs : List (ℕ × ℕ)) (order : List (List ℕ))
    → Distinct part → ArePairsOf edges d part pairs → IsOrder (length part) pairs order
    → Components edges d part (statements_of_classes part order)
