-- Array forms of statements that don't depend on themselves within their outer loops.
use Rattle.std.specs.Prelude.{◌≡◌, Ok, Option, Some, None, ℕ, ◌≤◌, Bool, List, [], length, map}
use Rattle.tree.specs.Plain.{Statement}
use Rattle.meaning.specs.Run.{State, Going, does, does_all}
use Rattle.meaning.specs.Store.{Store}
use Rattle.meaning_laws.specs.arrays.Forms.{StoreApart}
use Rattle.meaning_laws.specs.arrays.Instances.{in_turn, NoneReadsWritten}
use Rattle.nest_order.specs.orders.Emission.{IsEmitted}
use Rattle.nest_order.specs.orders.Graphs.{Arc, edge_of}
use Rattle.nest_order.specs.orders.Shapes.{Shape, Shapes, statements, Within}
use Rattle.nest_order.specs.runs.Alone.{chain, HasNoOwnEdge, inner_instances}
use Rattle.nest_order.specs.runs.Blocks.{Layout, nest_statement, written_in}
use Rattle.nest_order.specs.runs.Forms.{AreCounted, FormsAreInstances}
use Rattle.nest_order.specs.runs.Guarded.{dialect, sequential}
use Rattle.nest_order.specs.runs.Laws.{GoesOnNear}
use Rattle.nest_order.specs.runs.Nests.{RunNest, AreAt}
use Rattle.nest_order.specs.runs.Stores.{Setting, HoldsNest, IsNestIn}
use Rattle.nest_order.specs.runs.Touched.{AreEdgesOf}

-- Where the outer loops of the statement s are within their trips, its inner loops have trips that can be counted, and
-- its instances in these lead without fault to the store u, none of them reading what an earlier one has written and no
-- two storing different values in one cell, the form goes on and leaves u
abbrev pub IsFormOf : ℕ → Bool → RunNest → Setting → List ℕ → List ℕ → ℕ → Statement → Type 0
IsFormOf bits arrays n w outer inner s form =
    (before : List ℕ) (t : State) (u : Store)
    → Within (n.turns_of w.values) [] outer before → AreCounted bits n w outer before (chain inner s)
    → HoldsNest bits n w t.store → AreAt n outer before t.store → t.way ≡ Going
    → NoneReadsWritten [] (inner_instances bits n w before inner s) t.store
    → StoreApart t.store (inner_instances bits n w before inner s)
    → in_turn (inner_instances bits n w before inner s) t.store ≡ Ok u
    → ((does (dialect bits arrays) None form t).way ≡ Going) × ((does (dialect bits arrays) None form t).store ≡ u)

-- forms stand in the place of loops that have one statement each, on which no edge from its own left side is at work
abbrev pub AreLoneForms : ℕ → Bool → RunNest → Setting → List Arc → (List ℕ → Shape → Option Statement) → Type 0
AreLoneForms bits arrays n w arcs form =
    (outer : List ℕ) (t : Shape) (c : Statement) → form outer t ≡ Some c
    → (s : ℕ) × (inner : List ℕ) × (t ≡ chain inner s) × HasNoOwnEdge arcs (length outer) s
    × IsFormOf bits arrays n w outer inner s c

-- such forms do what the instances in their loops do
abbrev pub LoneFormsAreInstances : Type 0
LoneFormsAreInstances =
    (bits : ℕ) (arrays : Bool) (n : RunNest) (w : Setting) (arcs : List Arc) (form : List ℕ → Shape → Option Statement)
    → IsNestIn bits n w → AreEdgesOf n arcs → AreLoneForms bits arrays n w arcs form
    → FormsAreInstances bits n w arrays form

-- so what is emitted with them keeps the meaning of the nest
abbrev pub LoneFormsKeepMeaning : Type 0
LoneFormsKeepMeaning =
    (bits : ℕ) (arrays : Bool) (n : RunNest) (w : Setting) (arcs : List Arc) (ts : Shapes) (y z : Layout)
    (form : List ℕ → Shape → Option Statement) (s : State)
    → 31 ≤ bits → IsNestIn bits n w → AreEdgesOf n arcs
    → IsEmitted n.loops_of (map edge_of arcs) 0 (statements n.shape) ts → AreLoneForms bits arrays n w arcs form
    → HoldsNest bits n w s.store → (does (sequential bits) None (nest_statement n y [] n.shape) s).way ≡ Going
    → GoesOnNear n (does (sequential bits) None (nest_statement n y [] n.shape) s)
    (does_all (dialect bits arrays) None (written_in n z form [] ts) s)
