-- What is emitted for a part of a nest, piece by piece, and the statements that the pieces are.
use Rattle.std.specs.Prelude.{ℕ, suc, ◌+◌, pos, Some, length}
use Rattle.tree.specs.Plain.{Number, Statement, Assignment, Do, Block, no_statements, statement}
use Rattle.tree.specs.declared.stmts.Mark.{Mark}
use Rattle.nest.specs.Allocations.{block_then, allocations_then, deallocations}
use Rattle.nest.specs.Blocks.{under_guard}
use Rattle.nest.specs.Plain.{Loop, Nest}
use Rattle.nest.specs.Bodies.{statement_number}
use Rattle.array_form.specs.forms.Statements.{array_form_of}
use Rattle.array_form.specs.holds.Surroundings.{surroundings_of}
use Rattle.emission.specs.emission_pieces.Nests.{standing_at, loops_at}

-- a statement in its last loop, as it is; a statement with its further loops in array form; or a loop with what stands
-- in it
mutual
  pub data Piece : Type 0 where
    Kept : ℕ → Piece
    Formed : ℕ → Piece
    Turning : Loop → Pieces → Piece

  pub data Pieces : Type 0 where
    no_pieces : Pieces
    piece : Piece → Pieces → Pieces

module _ (n : Nest) where
  -- the statement with this place is marked by its number
  abbrev pub mark_of : ℕ → ℕ → Mark
  mark_of s level = record { nest = n.number; stmt = statement_number s; level = level }

  -- as it is, under its guard; its level is the one behind its last loop
  abbrev pub kept_assignment : ℕ → Statement
  kept_assignment s =
      Assignment (standing_at n s).statement.line (Some (mark_of s (length (loops_at n s) + 1)))
      (standing_at n s).statement.left (standing_at n s).statement.right

  abbrev pub kept_statement : ℕ → Statement
  kept_statement s =
      under_guard (standing_at n s).statement.line (standing_at n s).statement.guard (kept_assignment s)

  abbrev pub formed_block : ℕ → ℕ → Block
  formed_block k s =
      array_form_of (surroundings_of n (loops_at n s)) k (standing_at n s).statement.line (Some (mark_of s k))
      (standing_at n s).statement.guard (standing_at n s).statement.left (standing_at n s).statement.right

  -- a loop keeps no line of its own, and has the nest's
  abbrev pub turning_statement : Loop → Block → Statement
  turning_statement l body = Do n.line l.variable (Number (pos 1)) l.last (Number (pos 1)) body

  -- with the loops before the level k round it
  abbrev mutual
    pub block_of_piece : ℕ → Piece → Block
    block_of_piece k (Kept s) = statement (kept_statement s) no_statements
    block_of_piece k (Formed s) = formed_block k s
    block_of_piece k (Turning l ps) = statement (turning_statement l (block_of_pieces (suc k) ps)) no_statements

    pub block_of_pieces : ℕ → Pieces → Block
    block_of_pieces k no_pieces = no_statements
    block_of_pieces k (piece p ps) = block_then (block_of_piece k p) (block_of_pieces k ps)

  -- the arrays of the nest are allocated before it, and deallocated behind what comes after it
  abbrev pub translation : Pieces → Block
  translation ps =
      allocations_then n.line n.made (block_then (block_of_pieces 1 ps)
      (block_then n.after (deallocations n.line n.made)))
