-- Any order of a nest's instances that keeps the edges of its graph gives the sequential store.
use Rattle.std.proofs.Common.{◌≡◌, refl, ◌⊎◌, inl, inr, ℕ, List, [], map, length, Ok, Some}
use Rattle.tree.specs.declared.ops.Value.{Value}
use Rattle.tree.specs.declared.ops.Fault.{Fault}
use Rattle.meaning.specs.Store.{Store, Cell, put}
use Rattle.nest_order.specs.orders.Graphs.{Arc, edge_of}
use Rattle.nest_order.specs.orders.Nests.{IsInstance, Depends, Ordered, common}
use Rattle.nest_order.specs.orders.Orders.{MayPass}
use Rattle.nest_order.specs.orders.Shapes.{Instance, instances}
use Rattle.nest_order.proofs.orders.Covering.{complete_covers}
use Rattle.nest_order.proofs.orders.Theorems.{any_order}
use Rattle.nest_order.specs.runs.Alone.{inside}
use Rattle.nest_order.specs.runs.Guarded.{sequential}
use Rattle.nest_order.specs.runs.Nests.{RunNest, acts, effect_of}
use Rattle.nest_order.specs.runs.Stores.{HoldsNest, IsNestIn, Setting}
use Rattle.nest_order.specs.runs.Touched.{AreEdgesOf, MayMeet, Touches, references_of}
use Rattle.nest_order.specs.runs.Laws.{InstancesMayPass, AnyOrderGivesStore}
use Rattle.nest_order.proofs.runs.Deciding.{depends_or_not}
use Rattle.nest_order.proofs.runs.Holding.{instance_inside}
use Rattle.nest_order.proofs.runs.Passing.{Conflict, invariant, may_pass}
use Rattle.nest_order.proofs.runs.Touching.{ReadBy, WrittenBy, reading, writing}

module _ (bits : ℕ) (n : RunNest) (w : Setting) (ok : IsNestIn bits n w) where
  abbrev IsIt : Instance → Type 0
  IsIt = IsInstance n.loops_of (n.turns_of w.values) n.shape

  abbrev Reads : Instance → Cell → Type 0
  Reads = ReadBy bits n w ok

  abbrev Writes : Instance → Cell → Type 0
  Writes = WrittenBy bits n w ok

  kept : (x : Instance) (s : Store) (c : Cell) (v : Value) → IsIt x → HoldsNest bits n w s → effect_of n (sequential bits) x s ≡ Ok (Some (c, v)) → HoldsNest bits n w (put c v s)
  kept x s c v is i e = instance_inside bits n w ok x is s c v i e

  meets : (x y : Instance) → Conflict Reads Writes x y → MayMeet n w.values x y
  meets x y (c, inl (u, inl (inl r))) = (0, r.0, c, inl refl, u.0, r.2, u.1, r.3)
  meets x y (c, inl (u, inl (inr i))) = absurd (u.2 i.0 i.1 i.2)
  meets x y (c, inl (u, inr v)) = (0, 0, c, inl refl, u.0, v.0, u.1, v.1)
  meets x y (c, inr (inl r, u)) = (r.0, 0, c, inr refl, r.2, u.0, r.3, u.1)
  meets x y (c, inr (inr i, u)) = absurd (u.2 i.0 i.1 i.2)

  pub passes : (x y : Instance) → IsIt x → IsIt y → ¬ (MayMeet n w.values x y) → MayPass (acts n (sequential bits)) (HoldsNest bits n w) x y
  passes x y is_x is_y apart = may_pass (sequential bits) n IsIt Reads Writes (HoldsNest bits n w) (reading bits n w ok) (writing bits n w ok) kept x y is_x is_y (λ c. apart (meets x y c))

  ordered : (arcs : List Arc) → AreEdgesOf n arcs → Ordered n.loops_of (n.turns_of w.values) n.shape (acts n (sequential bits)) (HoldsNest bits n w) (map edge_of arcs)
  ordered arcs complete x y a b p = by (depends_or_not (common n.loops_of) x y (map edge_of arcs))
    where
      by : Depends (common n.loops_of) (map edge_of arcs) x y ⊎ ¬ (Depends (common n.loops_of) (map edge_of arcs) x y)
          → Depends (common n.loops_of) (map edge_of arcs) x y ⊎ MayPass (acts n (sequential bits)) (HoldsNest bits n w) x y
      by (inl h) = inl h
      by (inr none) = inr (passes x y a b (λ m. none (complete_covers n.loops_of n.turns_of (λ s. length (references_of n s)) (Touches n) n.shape arcs complete w.values x y a b p m)))

  pub order_gives_store : (arcs : List Arc) → AreEdgesOf n arcs → (order : List Instance) → Rattle.nest_order.specs.orders.Nests.KeepsEdges n.loops_of (n.turns_of w.values) n.shape (map edge_of arcs) order → (s u : Store)
      → HoldsNest bits n w s → Rattle.nest_order.specs.orders.Orders.runs (acts n (sequential bits)) (instances (n.turns_of w.values) n.shape []) s ≡ Ok u
      → Rattle.nest_order.specs.orders.Orders.runs (acts n (sequential bits)) order s ≡ Ok u
  order_gives_store arcs complete order keeps s u inside e = any_order n.loops_of (n.turns_of w.values) n.shape ok.text.nest (map edge_of arcs) Store Fault (acts n (sequential bits)) (HoldsNest bits n w)
      (invariant (sequential bits) n IsIt Reads Writes (HoldsNest bits n w) (reading bits n w ok) (writing bits n w ok) kept) (ordered arcs complete) order keeps s u inside e

pub instances_may_pass : InstancesMayPass
instances_may_pass bits n w x y ok is_x is_y apart = passes bits n w ok x y is_x is_y apart

pub any_order_gives_store : AnyOrderGivesStore
any_order_gives_store bits n w arcs order s u ok complete keeps inside e = order_gives_store bits n w ok arcs complete order keeps s u inside e
