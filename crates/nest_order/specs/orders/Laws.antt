-- Laws of nests and of the orders of their instances.
use Rattle.std.specs.Prelude.{ℕ, List, []}
use Rattle.nest_order.specs.orders.Lists.{Each, Pairwise}
use Rattle.nest_order.specs.orders.Nests.{IsNest, Edge, IsEdge, Depends, Precedes, common, AreInstances, KeepsEdges}
use Rattle.nest_order.specs.orders.Emission.{IsEmitted, IsArranged}
use Rattle.nest_order.specs.orders.Shapes.{Shape, Shapes, statements, Instance, instances, instances_in}

-- the instances of a nest are listed each once, in sequential order
abbrev pub InstancesInSequence : Type 0
InstancesInSequence = (loops_of : ℕ → List ℕ) (trip : ℕ → List ℕ → ℕ) (t : Shape)
    → IsNest loops_of t
    → AreInstances loops_of trip t (instances trip t [])
    × Pairwise (Precedes (common loops_of)) (instances trip t [])

-- an instance comes after those on which it depends
abbrev pub EdgesFollowSequence : Type 0
EdgesFollowSequence = (loops_of : ℕ → List ℕ) (edges : List Edge) (x y : Instance)
    → Each (IsEdge loops_of) edges → Depends (common loops_of) edges x y
    → Precedes (common loops_of) x y

-- so sequential order keeps the edges
abbrev pub SequenceKeepsEdges : Type 0
SequenceKeepsEdges = (loops_of : ℕ → List ℕ) (trip : ℕ → List ℕ → ℕ) (t : Shape) (edges : List Edge)
    → IsNest loops_of t → Each (IsEdge loops_of) edges
    → KeepsEdges loops_of trip t edges (instances trip t [])

-- what is emitted for a nest has each of its statements once, in the statement's own loops
abbrev pub EmissionArranges : Type 0
EmissionArranges = (loops_of : ℕ → List ℕ) (t : Shape) (edges : List Edge) (ts : Shapes)
    → IsNest loops_of t → Each (IsEdge loops_of) edges → IsEmitted loops_of edges 0 (statements t) ts
    → IsArranged loops_of [] (statements t) ts

-- and the order of its instances keeps the edges
abbrev pub EmissionKeepsEdges : Type 0
EmissionKeepsEdges =
    (loops_of : ℕ → List ℕ) (trip : ℕ → List ℕ → ℕ) (t : Shape) (edges : List Edge) (ts : Shapes)
    → IsNest loops_of t → Each (IsEdge loops_of) edges → IsEmitted loops_of edges 0 (statements t) ts
    → KeepsEdges loops_of trip t edges (instances_in trip ts [])
