-- Why the loops of what is emitted turn, said of all dependences of a nest at once: neither by components nor by their
-- order. Statements go by their places, levels count from 1.
use Rattle.std.specs.Prelude.{◌≡◌, ◌⊎◌, ℕ, ◌≤◌, ◌<◌, true, Contains, List, ◌∷◌, length}
use Rattle.closed_walks.specs.FlatComponents.{IsJoined}
use Rattle.closed_walks.specs.Walks.{IsClosedWalk, IsLeastClosedWalk}
use Rattle.dependence_graph.specs.declared.graphs.Cycle.{Cycle}
use Rattle.dependence_graph.specs.declared.graphs.Edge.{Edge}
use Rattle.dependence_graph.specs.declared.graphs.Hold.{Hold}
use Rattle.nest.specs.Bodies.{nest_statements}
use Rattle.nest.specs.Plain.{Nest}
use Rattle.emission.specs.emission_marks.Components.{IsAloneAt}
use Rattle.emission.specs.emission_pieces.Cycles.{cycle_at, steps_of}
use Rattle.emission.specs.emission_pieces.Levels.{is_held, leads}
use Rattle.emission.specs.emission_pieces.Nests.{loops_at}

module _ (edges : List Edge) where
  -- by all dependences at work at the level, but antidependences of a statement on itself
  abbrev pub steps_at : ℕ → List (ℕ × ℕ)
  steps_at k = steps_of (λ s. true) edges k

  -- no closed walk of dependences at work at the level joins the statement to another one
  abbrev pub IsByItself : ℕ → ℕ → Type 0
  IsByItself k s = (r : ℕ) → IsJoined (leads edges) k s r → r ≡ s

  -- a cycle of the level begins with it: the least of its shortest closed walks
  pub record HasCycle (cs : List Cycle) (s k : ℕ) : Type 0 where
    pub over : List ℕ
    pub least : IsLeastClosedWalk (steps_at k) s over
    pub among : Contains cs (cycle_at k (s ∷ over))

-- it is by itself there, and a hold of it is listed
pub record IsHeldThere (edges : List Edge) (holds : List Hold) (s k : ℕ) : Type 0 where
  pub by_itself : IsByItself edges k s
  pub held : is_held holds k s ≡ true

module _ (n : Nest) (edges : List Edge) (holds : List Hold) where
  -- the statement stands in the loop of this level of what is emitted: it has so many loops, and isn't alone at this
  -- level or at one outside it
  pub record StandsInLoop (s k : ℕ) : Type 0 where
    pub inside : s < length (nest_statements n)
    pub first : 1 ≤ k
    pub last : k ≤ length (loops_at n s)
    pub never : (j : ℕ) → j ≤ k → IsAloneAt n edges holds s j → ⊥

  -- of a statement in a loop
  pub record IsCycleOf (c : Cycle) : Type 0 where
    pub statement : ℕ
    pub level : ℕ
    pub over : List ℕ
    pub stands : StandsInLoop statement level
    pub least : IsLeastClosedWalk (steps_at edges level) statement over
    pub is : c ≡ cycle_at level (statement ∷ over)

  -- Each statement in a loop has a cycle there, or is held there by itself; it has one wherever a closed walk leads
  -- from it; and no other cycle is listed
  pub record HaveCauses (cs : List Cycle) : Type 0 where
    pub each : (s k : ℕ) → StandsInLoop s k → HasCycle edges cs s k ⊎ IsHeldThere edges holds s k
    pub cyclic :
        (s k : ℕ) (over : List ℕ)
        → StandsInLoop s k → IsClosedWalk (steps_at edges k) s over → HasCycle edges cs s k
    pub only : (c : Cycle) → Contains cs c → IsCycleOf c
