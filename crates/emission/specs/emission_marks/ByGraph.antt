-- The marked statements of a block as a graph and holds of a nest have them: which are array statements, from which
-- level on, and which stand in one loop.
use Rattle.std.specs.Prelude.{◌≡◌, ◌≢◌, ◌↔◌, ℕ, ◌<◌, ◌≤◌, List, map, length, Contains}
use Rattle.tree.specs.Plain.{Block}
use Rattle.components.specs.Lists.{Distinct}
use Rattle.dependence_graph.specs.declared.graphs.Edge.{Edge}
use Rattle.dependence_graph.specs.declared.graphs.Hold.{Hold}
use Rattle.nest.specs.Bodies.{nest_statements}
use Rattle.nest.specs.Plain.{Nest}
use Rattle.emission.specs.emission_marks.Components.{IsLevel, IsWith}
use Rattle.emission.specs.emission_marks.Marks.{Marked, StandTogether, marked_at}
use Rattle.emission.specs.emission_pieces.Nests.{loops_at}

module _ (n : Nest) (edges : List Edge) (holds : List Hold) where
  -- Each statement of the nest is marked just once, and stands as its level has it: in array form within the loops
  -- before the least level at which it is alone, or as it is within all its loops where it is alone at none. Nothing
  -- else is marked
  pub record AreMarked (all : List Marked) : Type 0 where
    pub only : (x : Marked) → Contains all x
        → (s k : ℕ) × (s < length (nest_statements n)) × IsLevel n edges holds s k × (x ≡ marked_at n s k)
    pub each : (s : ℕ) → s < length (nest_statements n)
        → (k : ℕ) × IsLevel n edges holds s k × Contains all (marked_at n s k)
    pub once : Distinct (map (λ (x : Marked). x.mark.stmt) all)

-- two statements stand in one loop of a level that both have exactly where they are in one component there
abbrev pub AreTogether : Nest → List Edge → Block → Type 0
AreTogether n edges b = (s r k : ℕ) → s < length (nest_statements n) → r < length (nest_statements n) → s ≢ r
    → 1 ≤ k → k ≤ length (loops_at n s) → k ≤ length (loops_at n r)
    → StandTogether k b s r ↔ IsWith edges k s r
