-- Laws of loop interchange.
use Rattle.std.specs.Prelude.{◌≡◌, ℕ, ◌<◌, List, [], ◌∷◌, ◌++◌, length, map}
use Rattle.nest_order.specs.orders.Lists.{In, Keeps}
use Rattle.nest_order.specs.orders.Graphs.{Arc, HasLevel}
use Rattle.nest_order.specs.orders.Nests.{AreInstances, IsNest}
use Rattle.nest_order.specs.orders.Shapes.{Instance, Shape, instances}
use Rattle.interchange_laws.specs.orders.Moves.{chain_of, move, rearranged, restored_instance}
use Rattle.interchange_laws.specs.orders.Vectors.{AllSame, DependsByArcs}

-- a loop has as many turns wherever those round it are
abbrev pub IsRectangular : (ℕ → List ℕ → ℕ) → List ℕ → (ℕ → ℕ) → Type 0
IsRectangular trip ls turns = (l : ℕ) (before : List ℕ) → In l ls → trip l before ≡ turns l

-- a vector for all loops, and a loop independent arc leads forward in the text
pub record IsChainArc (depth : ℕ) (a : Arc) : Type 0 where
  pub long : length a.signs ≡ depth
  pub forward : AllSame a.signs → a.from.statement < a.to.statement

-- the order that a chain of loops has with its loops in another order
abbrev pub other_order : (ℕ → List ℕ → ℕ) → List ℕ → List ℕ → List ℕ → List Instance
other_order trip ps ls ss = map (restored_instance ps) (instances trip (chain_of (rearranged ps ls) ss) [])

pub record KeepsVectors (loops_of : ℕ → List ℕ) (trip : ℕ → List ℕ → ℕ) (t : Shape) (arcs : List Arc)
    (order : List Instance) : Type 0 where
  pub instances : AreInstances loops_of trip t order
  pub keeps : Keeps (DependsByArcs arcs) order

-- each vector has `<` as its first entry other than `=` in the new order of loops
abbrev pub MayBeRearranged : List ℕ → List Arc → Type 0
MayBeRearranged ps arcs = (a : Arc) → In a arcs → HasLevel (rearranged ps a.signs)

abbrev pub RearrangedOrderKeepsVectors : Type 0
RearrangedOrderKeepsVectors =
    (loops_of : ℕ → List ℕ) (trip : ℕ → List ℕ → ℕ) (l : ℕ) (ls ss ps : List ℕ) (turns : ℕ → ℕ) (arcs : List Arc)
    → IsNest loops_of (chain_of (l ∷ ls) ss)
    → IsRectangular trip (l ∷ ls) turns
    → ((a : Arc) → In a arcs → IsChainArc (length (l ∷ ls)) a)
    → MayBeRearranged ps arcs
    → KeepsVectors loops_of trip (chain_of (l ∷ ls) ss) arcs (other_order trip ps (l ∷ ls) ss)

-- a move takes one loop out over those before it
abbrev pub MoveIsRearranged : Type 0
MoveIsRearranged =
    (outer over inner : List ℕ) (l : ℕ)
    → rearranged (move (length outer) (length over)) (outer ++ (over ++ l ∷ inner)) ≡ outer ++ (l ∷ (over ++ inner))
