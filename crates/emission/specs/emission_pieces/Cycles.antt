-- The cycles of what is emitted: where a loop is opened, for each statement in it the least of the shortest closed
-- walks over dependences at work there between statements in it, if there is one. Statements go by their places, levels
-- count from 1.
use Rattle.std.specs.Prelude.{◌≡◌, ℕ, suc, ◌==◌, ◌&&◌, ◌||◌, Bool, false, not, List, [], ◌++◌, filter, length, map}
use Rattle.std.specs.List.{range_with_len}
use Rattle.closed_walks.specs.Cycles.{AreCycles}
use Rattle.dependence_graph.specs.declared.graphs.Cycle.{Cycle}
use Rattle.dependence_graph.specs.declared.graphs.Edge.{Edge}
use Rattle.dependence_graph.specs.declared.graphs.Hold.{Hold}
use Rattle.nest.specs.Bodies.{nest_statements, statement_number}
use Rattle.nest.specs.Plain.{Nest}
use Rattle.emission.specs.emission_pieces.Emission.{AreEmitted}
use Rattle.emission.specs.emission_pieces.Levels.{is_anti, is_at_work}
use Rattle.emission.specs.emission_pieces.Pieces.{Piece, Kept, Formed, Turning, Pieces, no_pieces, piece}

-- ---- the statements of a loop

abbrev mutual
  pub stands_in_piece : ℕ → Piece → Bool
  stands_in_piece s (Kept r) = r == s
  stands_in_piece s (Formed r) = r == s
  stands_in_piece s (Turning l ps) = stands_among s ps

  pub stands_among : ℕ → Pieces → Bool
  stands_among s no_pieces = false
  stands_among s (piece p ps) = stands_in_piece s p || stands_among s ps

-- those of the first so many that do, in the order of the text
abbrev pub statements_among : ℕ → Pieces → List ℕ
statements_among count ps = filter (λ s. stands_among s ps) (range_with_len 0 count)

-- ---- walks

-- a dependence of a statement on itself, from a read to a write
abbrev pub is_own_anti : Edge → Bool
is_own_anti e = is_anti e.kind && (e.from.stmt == e.to.stmt)

-- at work at the level, between two such statements
abbrev pub is_step : (ℕ → Bool) → ℕ → Edge → Bool
is_step has k e = is_at_work k e.level && (not (is_own_anti e) && (has e.from.stmt && has e.to.stmt))

abbrev pub steps_of : (ℕ → Bool) → List Edge → ℕ → List (ℕ × ℕ)
steps_of has edges k = map (λ (e : Edge). (e.from.stmt, e.to.stmt)) (filter (is_step has k) edges)

-- as it is listed, by numbers: a walk over these statements, of which the last one is the first one too
abbrev pub cycle_at : ℕ → List ℕ → Cycle
cycle_at k walk = record { level = k; stmts = map statement_number walk }

-- ---- cycles, as loops are opened: those of a loop come before those of the loops in it

module _ (edges : List Edge) (count : ℕ) where
  abbrev mutual
    pub AreCyclesIn : ℕ → Piece → List Cycle → Type 0
    AreCyclesIn k (Kept s) cs = cs ≡ []
    AreCyclesIn k (Formed s) cs = cs ≡ []
    AreCyclesIn k (Turning l ps) cs =
        (walks : List (List ℕ)) × (inner : List Cycle) × (cs ≡ map (cycle_at k) walks ++ inner)
        × AreCycles (steps_of (λ s. stands_among s ps) edges k) (statements_among count ps) walks
        × AreCyclesAmong (suc k) ps inner

    pub AreCyclesAmong : ℕ → Pieces → List Cycle → Type 0
    AreCyclesAmong k no_pieces cs = cs ≡ []
    AreCyclesAmong k (piece p ps) cs =
        (first : List Cycle) × (rest : List Cycle) × (cs ≡ first ++ rest)
        × AreCyclesIn k p first × AreCyclesAmong k ps rest

-- of what is emitted for a nest by its edges and its holds
pub record AreCyclesOf (n : Nest) (edges : List Edge) (holds : List Hold) (cs : List Cycle) : Type 0 where
  pub pieces : Pieces
  pub emitted : AreEmitted n edges holds 1 (range_with_len 0 (length (nest_statements n))) pieces
  pub cycles : AreCyclesAmong edges (length (nest_statements n)) 1 pieces cs
