-- The cycles of parts of a nest.
use Rattle.std.specs.Prelude.{◌≡◌, ℕ, suc, ◌==◌, Bool, List, ◌++◌, length, map}
use Rattle.std.specs.List.{list_any}
use Rattle.closed_walks.specs.Cycles.{AreCycles}
use Rattle.dependence_graph.specs.declared.graphs.Cycle.{Cycle}
use Rattle.dependence_graph.specs.declared.graphs.Edge.{Edge}
use Rattle.dependence_graph.specs.declared.graphs.Hold.{Hold}
use Rattle.nest.specs.Bodies.{nest_statements}
use Rattle.nest.specs.Plain.{Nest}
use Rattle.emission.specs.emission_pieces.Cycles.{AreCyclesAmong, AreCyclesIn, cycle_at, steps_of}
use Rattle.emission.specs.emission_pieces.Emission.{AreEmitted, AreEmittedFor, IsEmittedFor}
use Rattle.emission.specs.emission_pieces.Pieces.{Piece, Pieces}

abbrev pub is_member : List ℕ → ℕ → Bool
is_member c s = list_any (λ r. r == s) c

-- cycles of which this holds come behind what stands already
pub record AddCycles (P : List Cycle → Type 0) (old new : List Cycle) : Type 0 where
  pub more : List Cycle
  pub are : new ≡ old ++ more
  pub holds : P more

module _ (n : Nest) (edges : List Edge) (holds : List Hold) where
  -- of what is emitted for a class at the level k
  pub record AreCyclesFor (k : ℕ) (c : List ℕ) (cs : List Cycle) : Type 0 where
    pub it : Piece
    pub emitted : IsEmittedFor n edges holds k c it
    pub cycles : AreCyclesIn edges (length (nest_statements n)) k it cs

  -- for classes one after the other
  pub record AreCyclesForAll (k : ℕ) (classes : List (List ℕ)) (cs : List Cycle) : Type 0 where
    pub pieces : Pieces
    pub emitted : AreEmittedFor n edges holds k classes pieces
    pub cycles : AreCyclesAmong edges (length (nest_statements n)) k pieces cs

  -- for a part of the nest
  pub record AreCyclesOfPart (k : ℕ) (part : List ℕ) (cs : List Cycle) : Type 0 where
    pub pieces : Pieces
    pub emitted : AreEmitted n edges holds k part pieces
    pub cycles : AreCyclesAmong edges (length (nest_statements n)) k pieces cs

  -- for a class in its loop of this level: its walks, and what is in the loop
  pub record AreCyclesInLoop (k : ℕ) (c : List ℕ) (cs : List Cycle) : Type 0 where
    pub walks : List (List ℕ)
    pub inner : List Cycle
    pub are : cs ≡ map (cycle_at k) walks ++ inner
    pub cycles : AreCycles (steps_of (is_member c) edges k) c walks
    pub part : AreCyclesOfPart (suc k) c inner
