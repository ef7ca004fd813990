-- A statement by itself in its loops, none of whose instances depends on another there.
use Rattle.std.specs.Prelude.{◌≡◌, ℕ, List, [], ◌∷◌, ◌++◌, length, map}
use Rattle.meaning.specs.Store.{Store}
use Rattle.meaning_laws.specs.arrays.Forms.{StoreApart}
use Rattle.meaning_laws.specs.arrays.Instances as arrays
use Rattle.nest_order.specs.orders.Graphs.{Arc, level_after}
use Rattle.nest_order.specs.orders.Lists.{In}
use Rattle.nest_order.specs.orders.Nests.{Remains}
use Rattle.nest_order.specs.orders.Shapes.{Shape, Single, Loop, no_shapes, shape, statements, Instance, instances}
use Rattle.nest_order.specs.orders.Shapes.{Within}
use Rattle.nest_order.specs.runs.Guarded.{sequential}
use Rattle.nest_order.specs.runs.Nests.{RunNest}
use Rattle.nest_order.specs.runs.Laws.{as_instance}
use Rattle.nest_order.specs.runs.Stores.{Setting, HoldsNest, IsNestIn}
use Rattle.nest_order.specs.runs.Touched.{AreEdgesOf}

-- the statement s in the loops ls, from the outside in, with nothing else in them
abbrev pub chain : List ℕ → ℕ → Shape
chain [] s = Single s
chain (l ∷ ls) s = Loop l (shape (chain ls s) no_shapes)

-- no edge that none of the first d loops carries leads from the left side of s to s: neither a flow nor an output
-- dependence
abbrev pub HasNoOwnEdge : List Arc → ℕ → ℕ → Type 0
HasNoOwnEdge arcs d s =
    (a : Arc) → In a arcs → a.from ≡ record { statement = s; reference = 0 } → a.to.statement ≡ s
    → ¬ (Remains d (level_after 0 a.signs))

-- an instance in loops that are at the iterations `before`
abbrev pub inside : List ℕ → Instance → Instance
inside before x = record { statement = x.statement; iterations = before ++ x.iterations }

-- the instances of a statement in its inner loops, where the outer ones are at these iterations
abbrev pub inner_instances : ℕ → RunNest → Setting → List ℕ → List ℕ → ℕ → List arrays.Instance
inner_instances bits n w before inner s =
    map (as_instance n (sequential bits)) (map (inside before) (instances (n.turns_of w.values) (chain inner s) before))

-- Within the outer loops of a statement without such an edge, none of its instances reads what an earlier one has
-- written, and no two store different values in one cell: so that they may store all at once
abbrev pub InnerInstancesAreApart : Type 0
InnerInstancesAreApart =
    (bits : ℕ) (n : RunNest) (w : Setting) (arcs : List Arc) (s : ℕ) (outer inner before : List ℕ) (t : Store)
    → IsNestIn bits n w → AreEdgesOf n arcs → In s (statements n.shape) → n.loops_of s ≡ outer ++ inner
    → HasNoOwnEdge arcs (length outer) s → Within (n.turns_of w.values) [] outer before → HoldsNest bits n w t
    → arrays.NoneReadsWritten [] (inner_instances bits n w before inner s) t
    × StoreApart t (inner_instances bits n w before inner s)
