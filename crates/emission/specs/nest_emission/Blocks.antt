-- Blocks that are what some pieces are.
use Rattle.std.specs.Prelude.{◌≡◌, ℕ, suc, List}
use Rattle.tree.specs.Plain.{Block}
use Rattle.dependence_graph.specs.declared.graphs.Edge.{Edge}
use Rattle.dependence_graph.specs.declared.graphs.Hold.{Hold}
use Rattle.emission.specs.emission_pieces.Emission.{AreEmitted, AreEmittedFor, IsEmittedFor, IsLoopOf}
use Rattle.emission.specs.emission_pieces.Pieces.{Piece, Pieces, block_of_piece, block_of_pieces, turning_statement}
use Rattle.nest.specs.Plain.{Loop, Nest}
use Rattle.array_form.specs.Statement.{block_of_one}

module _ (n : Nest) (edges : List Edge) (holds : List Hold) where
  -- emitted for a class at the level k
  pub record IsBlockFor (k : ℕ) (c : List ℕ) (b : Block) : Type 0 where
    pub it : Piece
    pub emitted : IsEmittedFor n edges holds k c it
    pub block : b ≡ block_of_piece n k it

  -- for classes one after the other
  pub record IsBlockForAll (k : ℕ) (classes : List (List ℕ)) (b : Block) : Type 0 where
    pub pieces : Pieces
    pub emitted : AreEmittedFor n edges holds k classes pieces
    pub block : b ≡ block_of_pieces n k pieces

  -- for a part of the nest
  pub record IsBlockOfPart (k : ℕ) (part : List ℕ) (b : Block) : Type 0 where
    pub pieces : Pieces
    pub emitted : AreEmitted n edges holds k part pieces
    pub block : b ≡ block_of_pieces n k pieces

  -- in its loop of this level
  pub record IsBlockInLoop (k : ℕ) (c : List ℕ) (b : Block) : Type 0 where
    pub loop : Loop
    pub is_loop : IsLoopOf n edges holds k c loop
    pub body : Block
    pub part : IsBlockOfPart (suc k) c body
    pub block : b ≡ block_of_one (turning_statement n loop body)
