-- What may stand in the place of a loop: statements that do what its instances do.
use Rattle.std.specs.Prelude.{◌≡◌, ⊤, Result, Ok, Option, Some, None, ℕ, ◌≤◌, ℤ, pos, Bool, List, [], ◌∷◌, ◌++◌}
use Rattle.tree.specs.Plain.{Statement}
use Rattle.tree.specs.declared.ops.Fault.{Fault}
use Rattle.meaning.specs.Run.{State, Going, does}
use Rattle.meaning.specs.Store.{Store}
use Rattle.meaning.specs.Value.{number_of, trip_count}
use Rattle.nest_order.specs.orders.Lists.{In}
use Rattle.nest_order.specs.orders.Orders.{runs}
use Rattle.nest_order.specs.orders.Shapes.{Shape, Single, Loop, Shapes, no_shapes, shape, statements, Stands, Instance}
use Rattle.nest_order.specs.orders.Shapes.{instances, Within}
use Rattle.nest_order.specs.runs.Guarded.{dialect, sequential}
use Rattle.nest_order.specs.runs.Nests.{RunNest, AreAt, acts}
use Rattle.nest_order.specs.runs.Stores.{Setting, HoldsNest}

module _ (bits : ℕ) (n : RunNest) (w : Setting) where
  -- in the loops `round`, at the iterations `before`, the trip of l has one value, which can be counted
  pub record IsCounted (l : ℕ) (round before : List ℕ) : Type 0 where
    pub top : ℤ
    pub counts : trip_count (pos 1) top (pos 1) ≡ Ok (n.turns_of w.values l before)
    pub gives : (s : Store) → HoldsNest bits n w s → AreAt n round before s
        → number_of (sequential bits) (n.trip_at l) s ≡ Ok top

  -- so has each loop of a shape, at whatever iterations its instances come to
  abbrev mutual
    pub AreCounted : List ℕ → List ℕ → Shape → Type 0
    AreCounted round before (Single s) = ⊤
    AreCounted round before (Loop l ts) =
        IsCounted l round before
        × ((i : ℕ) → 1 ≤ i → i ≤ n.turns_of w.values l before → AreCountedIn (round ++ l ∷ []) (before ++ i ∷ []) ts)

    pub AreCountedIn : List ℕ → List ℕ → Shapes → Type 0
    AreCountedIn round before no_shapes = ⊤
    AreCountedIn round before (shape t ts) = AreCounted round before t × AreCountedIn round before ts

  -- the statements of a shape are the nest's, in their own loops, of which those of `round` stand round the shape
  abbrev pub IsPart : List ℕ → Shape → Type 0
  IsPart round t =
      (s : ℕ) (ls : List ℕ) → Stands t s ls → In s (statements n.shape) × (n.loops_of s ≡ round ++ ls)

  -- an instance of a shape in loops that are at the iterations `before`
  abbrev pub acts_at : List ℕ → Instance → Store → Result Store Fault
  acts_at before x s =
      acts n (sequential bits) (record { statement = x.statement; iterations = before ++ x.iterations }) s

  -- Where the loops round it are within their trips and its instances, one after another, lead without fault to the
  -- store u, the form goes on and leaves u. A form may be an array statement, with arrays as values
  abbrev pub FormsAreInstances : Bool → (List ℕ → Shape → Option Statement) → Type 0
  FormsAreInstances arrays form =
      (round before : List ℕ) (t : Shape) (c : Statement) (s : State) (u : Store)
      → form round t ≡ Some c → IsPart round t → Within (n.turns_of w.values) [] round before
      → AreCounted round before t → HoldsNest bits n w s.store → AreAt n round before s.store → s.way ≡ Going
      → runs (acts_at before) (instances (n.turns_of w.values) t before) s.store ≡ Ok u
      → ((does (dialect bits arrays) None c s).way ≡ Going) × ((does (dialect bits arrays) None c s).store ≡ u)
