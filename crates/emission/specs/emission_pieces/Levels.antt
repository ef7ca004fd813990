-- Which dependences are at work at a level, and the components of statements there (Allen and Kennedy, "Optimizing
-- Compilers for Modern Architectures", section 2.4). Statements go by their places, levels count from 1 from the
-- outside in; the level of a loop independent edge is 0.
use Rattle.std.specs.Prelude.{◌≡◌, ◌↔◌, ◌<◌, ℕ, ◌==◌, nat_le, Bool, true, false, not, ◌&&◌, ◌||◌, List, length}
use Rattle.std.specs.Prelude.{slice_index}
use Rattle.std.specs.List.{list_any}
use Rattle.components.specs.Emission.{statements_of_classes}
use Rattle.components.specs.Lists.{IsMember}
use Rattle.components.specs.Orders.{IsOrder}
use Rattle.dependence_graph.specs.declared.graphs.Dep.{Dep}
use Rattle.dependence_graph.specs.declared.graphs.Dep.TheVariants.{Flow, Anti, Output}
use Rattle.dependence_graph.specs.declared.graphs.Edge.{Edge}
use Rattle.dependence_graph.specs.declared.graphs.Hold.{Hold}
use Rattle.nest.specs.Bodies.{statement_number}

-- no loop outside the level carries it
abbrev pub is_at_work : ℕ → ℕ → Bool
is_at_work k level = (level == 0) || nat_le k level

abbrev pub joins : ℕ → ℕ → ℕ → Edge → Bool
joins k s r e = (e.from.stmt == s) && ((e.to.stmt == r) && is_at_work k e.level)

-- an edge at work leads from the one statement to the other
abbrev pub leads : List Edge → ℕ → ℕ → ℕ → Bool
leads edges k s r = list_any (joins k s r) edges

-- ---- components

-- the places of a part's statements, paired where an edge at work leads from the one statement to the other
abbrev pub ArePairsAt : List Edge → ℕ → List ℕ → List (ℕ × ℕ) → Type 0
ArePairsAt edges k part pairs =
    (i j : ℕ)
    → IsMember (i, j) pairs
    ↔ ((i < length part) × (j < length part) × (leads edges k (slice_index part i) (slice_index part j) ≡ true))

-- the components of the part by such edges, in topological order; of several that may come next the one with the least
-- statement
pub record AreComponents (edges : List Edge) (k : ℕ) (part : List ℕ) (classes : List (List ℕ)) : Type 0 where
  pub pairs : List (ℕ × ℕ)
  pub paired : ArePairsAt edges k part pairs
  pub places : List (List ℕ)
  pub order : IsOrder (length part) pairs places
  pub statements : classes ≡ statements_of_classes part places

-- ---- a statement by itself

abbrev pub is_anti : Dep → Bool
is_anti Flow = false
is_anti Anti = true
is_anti Output = false

-- a flow or output dependence of the statement on itself that is at work
abbrev pub is_own : ℕ → ℕ → Edge → Bool
is_own k s e = joins k s s e && not (is_anti e.kind)

abbrev pub is_recurrent : List Edge → ℕ → ℕ → Bool
is_recurrent edges k s = list_any (is_own k s) edges

-- a hold has the statement's number
abbrev pub is_hold_of : ℕ → ℕ → Hold → Bool
is_hold_of k s h = (h.stmt == statement_number s) && (h.level == k)

abbrev pub is_held : List Hold → ℕ → ℕ → Bool
is_held holds k s = list_any (is_hold_of k s) holds

abbrev pub may_be_formed : List Edge → List Hold → ℕ → ℕ → Bool
may_be_formed edges holds k s = not (is_recurrent edges k s) && not (is_held holds k s)
