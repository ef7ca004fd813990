-- What is emitted for a nest has nothing but marked statements.
use Rattle.std.proofs.Common.{ℕ, suc, Some, List, [], ◌∷◌}
use Rattle.array_form.specs.forms.Loops.{FormSurroundings, form_names_of}
use Rattle.array_form.specs.forms.Statements.{guarded_by, guarded_form, loops_from, form_tests_of}
use Rattle.array_form.specs.holds.Surroundings.{surroundings_of}
use Rattle.emission.specs.emission_pieces.Nests.{loops_at, standing_at}
use Rattle.emission.specs.emission_pieces.Pieces.{Formed, Kept, Piece, Pieces, Turning, block_of_piece, block_of_pieces}
use Rattle.emission.specs.emission_pieces.Pieces.{kept_assignment, mark_of, no_pieces, piece}
use Rattle.nest.specs.Allocations.{block_then}
use Rattle.nest.specs.Plain.{Guarded, Nest}
use Rattle.pass_laws.proofs.PreparedRuns.Pieces.{of_form, of_kept}
use Rattle.tree.specs.Plain.{Block, Expression, Statement, no_statements, statement}
use Rattle.translation.specs.program_marks.Marks.{AreMarkedThroughout, IsMarkedThroughout}

both : (b c : Block) → AreMarkedThroughout b → AreMarkedThroughout c → AreMarkedThroughout (block_then b c)
both no_statements c h k = k
both (statement s b) c h k = (h.0, both b c h.1 k)

-- a statement under conditions on trips
under : (line : ℕ) (tests : List Expression) (c : Statement) → IsMarkedThroughout c
    → AreMarkedThroughout (guarded_by line tests (statement c no_statements))
under line [] c h = (h, tt)
under line (e ∷ es) c h = ((((h, tt), tt), tt), tt)

module _ (n : Nest) where
  abbrev around : ℕ → FormSurroundings
  around s = surroundings_of n (loops_at n s)

  abbrev own : ℕ → Guarded
  own s = (standing_at n s).statement

  mutual
    one : (k : ℕ) (p : Piece) → AreMarkedThroughout (block_of_piece n k p)
    one k (Kept s) = (
      of_kept IsMarkedThroughout (own s).line (own s).guard (kept_assignment n s) tt (λ e. (((tt, tt), tt), tt)),
      tt,
    )
    one k (Formed s) =
        under (own s).line (form_tests_of (form_names_of (around s)) (loops_from (around s) k))
        (guarded_form (around s) k (own s).line (Some (mark_of n s k)) (own s).guard (own s).left (own s).right)
        (of_form IsMarkedThroughout (around s) k (own s).line (Some (mark_of n s k)) (own s).guard (own s).left
        (own s).right tt (λ e. tt) (λ e. (((tt, tt), tt), tt)))
    one k (Turning l ps) = (marked_throughout (suc k) ps, tt)

    pub marked_throughout : (k : ℕ) (ps : Pieces) → AreMarkedThroughout (block_of_pieces n k ps)
    marked_throughout k no_pieces = tt
    marked_throughout k (piece p ps) =
        both (block_of_piece n k p) (block_of_pieces n k ps) (one k p) (marked_throughout k ps)
