-- Nests with their dependences, and the orders of their instances that keep these (Allen and Kennedy, sections 2.2 and
-- 2.3).
use Rattle.std.specs.Prelude.{◌≡◌, ◌⊎◌, ◌↔◌, ⊤, ℕ, ◌<◌, ◌≤◌, List, [], Result}
use Rattle.nest_order.specs.orders.Lists.{In, Pairwise, Distinct, Keeps}
use Rattle.nest_order.specs.orders.Orders.{MayPass}
use Rattle.nest_order.specs.orders.Shapes.{Shape, statements, loops_of_shape, Instance, Within, LessAt, SameUpTo}
use Rattle.nest_order.specs.orders.Shapes.{common_of, Fits}

-- statements are numbered in text order, no number stands for two loops, and each statement stands in its own loops
pub record IsNest (loops_of : ℕ → List ℕ) (t : Shape) : Type 0 where
  pub rising : Pairwise (λ s r. s < r) (statements t)
  pub single : Distinct (loops_of_shape t)
  pub fits : Fits loops_of [] t

-- ---- edges

-- an edge is carried by a loop, which has so many loops round it, or is loop independent
pub data Level : Type 0 where
  Carried : ℕ → Level
  Independent : Level

pub record Edge : Type 0 where
  pub from : ℕ
  pub to : ℕ
  pub level : Level

-- an edge that is carried by none of the first d loops, and so is still at work where these are at fixed iterations
abbrev pub Remains : ℕ → Level → Type 0
Remains d (Carried m) = d ≤ m
Remains d Independent = ⊤

-- an edge carried by a loop leads from one statement in that loop to another, and a loop independent one forward in the
-- text
abbrev pub LeadsInNest : (ℕ → List ℕ) → ℕ → ℕ → Level → Type 0
LeadsInNest loops_of from to (Carried m) = m < common_of (loops_of from) (loops_of to)
LeadsInNest loops_of from to Independent = from < to

abbrev pub IsEdge : (ℕ → List ℕ) → Edge → Type 0
IsEdge loops_of e = LeadsInNest loops_of e.from e.to e.level

-- common: how many loops stand round two statements both
module _ (common : ℕ → ℕ → ℕ) where
  -- y depends on x
  abbrev pub DependsAt : Level → Instance → Instance → Type 0
  DependsAt (Carried m) x y = LessAt m x.iterations y.iterations
  DependsAt Independent x y = SameUpTo (common x.statement y.statement) x.iterations y.iterations

  abbrev pub DependsBy : Edge → Instance → Instance → Type 0
  DependsBy e x y = (e.from ≡ x.statement) × (e.to ≡ y.statement) × DependsAt e.level x y

  -- by some edge
  abbrev pub Depends : List Edge → Instance → Instance → Type 0
  Depends edges x y = (e : Edge) × In e edges × DependsBy e x y

  -- x comes before y in a sequential run: their common loops are at the same iterations up to one in which x is at a
  -- lesser one; or they are all at the same iterations, and the statement of x stands earlier in the text
  abbrev pub Precedes : Instance → Instance → Type 0
  Precedes x y =
      ((m : ℕ) × (m < common x.statement y.statement) × LessAt m x.iterations y.iterations)
      ⊎ (SameUpTo (common x.statement y.statement) x.iterations y.iterations × (x.statement < y.statement))

-- ---- orders

-- how many loops stand round two statements both
abbrev pub common : (ℕ → List ℕ) → ℕ → ℕ → ℕ
common loops_of s r = common_of (loops_of s) (loops_of r)

module _ (loops_of : ℕ → List ℕ) (trip : ℕ → List ℕ → ℕ) (t : Shape) where
  -- a statement of the nest with an iteration of each of its loops
  abbrev pub IsInstance : Instance → Type 0
  IsInstance x = In x.statement (statements t) × Within trip [] (loops_of x.statement) x.iterations

  -- all instances of the nest, each once
  pub record AreInstances (order : List Instance) : Type 0 where
    pub each : (x : Instance) → In x order ↔ IsInstance x
    pub once : Distinct order

  -- and each instance before those that depend on it
  pub record KeepsEdges (edges : List Edge) (order : List Instance) : Type 0 where
    pub instances : AreInstances order
    pub keeps : Keeps (Depends (common loops_of) edges) order

  -- of two instances in sequential order, the second depends on the first, or they may be exchanged
  abbrev pub Ordered : {S F : Type 0} → (Instance → S → Result S F) → (S → Type 0) → List Edge → Type 0
  Ordered step I edges =
      (x y : Instance) → IsInstance x → IsInstance y → Precedes (common loops_of) x y
      → Depends (common loops_of) edges x y ⊎ MayPass step I x y
