-- Recursive emission (Allen and Kennedy, section 2.4, "codegen"): at each level the components one after another; a
-- statement by itself as it is, or in array form where nothing forbids it, any other component in its next loop, with
-- what is emitted for it one level deeper.
use Rattle.std.specs.Prelude.{◌≡◌, ⊤, ℕ, suc, ◌-◌, ◌≤◌, ◌<◌, Some, true, false, List, [], ◌∷◌, length, slice_get}
use Rattle.std.specs.List.{range_with_len}
use Rattle.tree.specs.Plain.{Block}
use Rattle.components.specs.Lists.{IsMember}
use Rattle.dependence_graph.specs.declared.graphs.Edge.{Edge}
use Rattle.dependence_graph.specs.declared.graphs.Graph.{Graph}
use Rattle.dependence_graph.specs.declared.graphs.Hold.{Hold}
use Rattle.nest.specs.Bodies.{nest_statements}
use Rattle.nest.specs.Plain.{Loop, Nest}
use Rattle.emission.specs.emission_pieces.Levels.{AreComponents, may_be_formed}
use Rattle.emission.specs.emission_pieces.Nests.{loops_at}
use Rattle.emission.specs.emission_pieces.Pieces.{Piece, Kept, Formed, Turning, Pieces, no_pieces, piece, translation}

module _ (n : Nest) (edges : List Edge) (holds : List Hold) where
  -- the loop of this level round a statement of the class
  pub record IsLoopOf (k : ℕ) (c : List ℕ) (l : Loop) : Type 0 where
    pub statement : ℕ
    pub among : IsMember statement c
    pub loop : slice_get (loops_at n statement) (k - 1) ≡ Some l

  -- it isn't one statement that may stand in array form
  abbrev pub HasToTurn : ℕ → List ℕ → Type 0
  HasToTurn k c = (s : ℕ) → c ≡ s ∷ [] → may_be_formed edges holds k s ≡ false

  abbrev mutual
    pub IsEmittedFor : ℕ → List ℕ → Piece → Type 0
    IsEmittedFor k c (Kept s) = (c ≡ s ∷ []) × (length (loops_at n s) < k)
    IsEmittedFor k c (Formed s) =
        (c ≡ s ∷ []) × (k ≤ length (loops_at n s)) × (may_be_formed edges holds k s ≡ true)
    IsEmittedFor k c (Turning l ps) =
        IsLoopOf k c l × HasToTurn k c
        × ((classes : List (List ℕ)) × AreComponents edges (suc k) c classes × AreEmittedFor (suc k) classes ps)

    pub AreEmittedFor : ℕ → List (List ℕ) → Pieces → Type 0
    AreEmittedFor k [] no_pieces = ⊤
    AreEmittedFor k (c ∷ cs) (piece p ps) = IsEmittedFor k c p × AreEmittedFor k cs ps
    AreEmittedFor k _ _ = ⊥

  -- at the level k for a part of the nest
  pub record AreEmitted (k : ℕ) (part : List ℕ) (ps : Pieces) : Type 0 where
    pub classes : List (List ℕ)
    pub components : AreComponents edges k part classes
    pub emitted : AreEmittedFor k classes ps

-- the block of a nest with this graph and these holds
pub record IsEmission (n : Nest) (g : Graph) (holds : List Hold) (b : Block) : Type 0 where
  pub pieces : Pieces
  pub emitted : AreEmitted n g.edges holds 1 (range_with_len 0 (length (nest_statements n))) pieces
  pub block : b ≡ translation n pieces
