-- Laws of the runs of nests, and of the orders of their instances.
use Rattle.std.specs.Prelude.{◌≡◌, Ok, Option, None, ℕ, ◌≤◌, Bool, List, [], ◌∷◌, map, Contains}
use Rattle.std.specs.List.{AllByRecursion}
use Rattle.tree.specs.Plain.{Statement, Program, Reference}
use Rattle.meaning.specs.Dialect.{Dialect}
use Rattle.meaning.specs.Run.{State, Going, does, does_all}
use Rattle.meaning.specs.Store.{Store, Agree, names_of}
use Rattle.meaning_laws.specs.arrays.Instances.{in_turn, ComesFromReads}
use Rattle.meaning_laws.specs.arrays.Instances as arrays
use Rattle.nest_order.specs.orders.Emission.{IsEmitted}
use Rattle.nest_order.specs.orders.Graphs.{Arc, edge_of}
use Rattle.nest_order.specs.orders.Nests.{IsInstance, KeepsEdges}
use Rattle.nest_order.specs.orders.Orders.{runs, MayPass}
use Rattle.nest_order.specs.orders.Lists.{In}
use Rattle.nest_order.specs.orders.Shapes.{Shape, Shapes, statements, loops_of_shape, Instance, instances}
use Rattle.nest_order.specs.runs.Blocks.{Layout, nest_statement, nest_block, written_in}
use Rattle.nest_order.specs.runs.Cells.{NamesCell}
use Rattle.nest_order.specs.runs.Forms.{FormsAreInstances}
use Rattle.nest_order.specs.runs.Guarded.{dialect, sequential}
use Rattle.nest_order.specs.runs.Nests.{RunNest, Near, acts, effect_of, reads_of}
use Rattle.nest_order.specs.runs.Stores.{Setting, HoldsNest, IsNestIn}
use Rattle.nest_order.specs.runs.Touched.{MayMeet, AreEdgesOf, references_read}

-- Two instances may be exchanged where they can touch no common cell of which one is written
abbrev pub InstancesMayPass : Type 0
InstancesMayPass = (bits : ℕ) (n : RunNest) (w : Setting) (x y : Instance)
    → IsNestIn bits n w
    → IsInstance n.loops_of (n.turns_of w.values) n.shape x → IsInstance n.loops_of (n.turns_of w.values) n.shape y
    → ¬ (MayMeet n w.values x y)
    → MayPass (acts n (sequential bits)) (HoldsNest bits n w) x y

-- From a store from which the instances of a nest, in sequential order, meet no fault, they meet none in any order that
-- keeps the edges of the nest's graph, and leave the same store. Of the edges no more is asked than that one stands for
-- each candidate that has a pair of iterations
abbrev pub AnyOrderGivesStore : Type 0
AnyOrderGivesStore =
    (bits : ℕ) (n : RunNest) (w : Setting) (arcs : List Arc) (order : List Instance) (s u : Store)
    → IsNestIn bits n w → AreEdgesOf n arcs
    → KeepsEdges n.loops_of (n.turns_of w.values) n.shape (map edge_of arcs) order
    → HoldsNest bits n w s
    → runs (acts n (sequential bits)) (instances (n.turns_of w.values) n.shape []) s ≡ Ok u
    → runs (acts n (sequential bits)) order s ≡ Ok u

-- A sequential run of a nest that goes on has done its instances one after another, but for the loop variables
abbrev pub RunIsInstances : Type 0
RunIsInstances = (bits : ℕ) (n : RunNest) (w : Setting) (y : Layout) (s : State)
    → IsNestIn bits n w → HoldsNest bits n w s.store
    → (does (sequential bits) None (nest_statement n y [] n.shape) s).way ≡ Going
    → (u : Store)
    × (runs (acts n (sequential bits)) (instances (n.turns_of w.values) n.shape []) s.store ≡ Ok u)
    × Near n u (does (sequential bits) None (nest_statement n y [] n.shape) s).store

-- both moments are the run's going on, with stores that are the same but for the loop variables
pub record GoesOnNear (n : RunNest) (s t : State) : Type 0 where
  pub way : t.way ≡ Going
  pub near : Near n s.store t.store

-- Where the sequential run of a nest goes on, what is emitted for it by its graph goes on and leaves the same store,
-- but for the loop variables: as loops
abbrev pub EmissionKeepsMeaning : Type 0
EmissionKeepsMeaning =
    (bits : ℕ) (arrays : Bool) (n : RunNest) (w : Setting) (arcs : List Arc) (ts : Shapes) (y z : Layout) (s : State)
    → 31 ≤ bits → IsNestIn bits n w → AreEdgesOf n arcs
    → IsEmitted n.loops_of (map edge_of arcs) 0 (statements n.shape) ts
    → HoldsNest bits n w s.store → (does (sequential bits) None (nest_statement n y [] n.shape) s).way ≡ Going
    → GoesOnNear n (does (sequential bits) None (nest_statement n y [] n.shape) s)
    (does_all (dialect bits arrays) None (nest_block n z [] ts) s)

-- and where forms stand in the place of some loops, that do what the instances in those loops do
abbrev pub TranslationKeepsMeaning : Type 0
TranslationKeepsMeaning =
    (bits : ℕ) (arrays : Bool) (n : RunNest) (w : Setting) (arcs : List Arc) (ts : Shapes) (y z : Layout)
    (form : List ℕ → Shape → Option Statement) (s : State)
    → 31 ≤ bits → IsNestIn bits n w → AreEdgesOf n arcs
    → IsEmitted n.loops_of (map edge_of arcs) 0 (statements n.shape) ts
    → FormsAreInstances bits n w arrays form
    → HoldsNest bits n w s.store → (does (sequential bits) None (nest_statement n y [] n.shape) s).way ≡ Going
    → GoesOnNear n (does (sequential bits) None (nest_statement n y [] n.shape) s)
    (does_all (dialect bits arrays) None (written_in n z form [] ts) s)

-- Stores that are near agree on a program that declares no variable of the nest's loops
abbrev pub NearStoresAgree : Type 0
NearStoresAgree = (n : RunNest) (p : Program) (s t : Store)
    → ((l : ℕ) → In l (loops_of_shape n.shape) → ¬ Contains (names_of p) (n.variable_at l)) → Near n s t → Agree p s t

-- ---- instances as what stores at most one value

abbrev pub as_instance : RunNest → Dialect → Instance → arrays.Instance
as_instance n lang x = record { effect = effect_of n lang x; reads = reads_of n lang x }

-- an instance stores by nothing but the cells that it reads, and instances one after another do what these do
abbrev pub InstancesComeFromReads : Type 0
InstancesComeFromReads = (n : RunNest) (lang : Dialect) (xs : List Instance) (s : Store)
    → AllByRecursion ComesFromReads (map (as_instance n lang) xs)
    × (runs (acts n lang) xs s ≡ in_turn (map (as_instance n lang) xs) s)

-- Where a nest's instances meet no fault, each reference of an unguarded one names a cell within the bounds of its
-- name, and a linear subscript has its value there
abbrev pub UnguardedInstancesNameCells : Type 0
UnguardedInstancesNameCells =
    (bits : ℕ) (n : RunNest) (w : Setting) (xs : List Instance) (s u : Store)
    → IsNestIn bits n w → HoldsNest bits n w s
    → ((x : Instance) → In x xs → IsInstance n.loops_of (n.turns_of w.values) n.shape x)
    → runs (acts n (sequential bits)) xs s ≡ Ok u
    → (x : Instance) → In x xs → (n.statement_at x.statement).guard ≡ None
    → (r : Reference) → In r ((n.statement_at x.statement).left ∷ references_read (n.statement_at x.statement))
    → NamesCell n w x r
