-- What is emitted for a nest reads and writes no lines, and no label stands in it.
use Rattle.std.proofs.Common.{ℕ, suc, Bool, true, false, cond, Option, List, [], ◌∷◌, ◌≡◌, refl, Some, None}
use Rattle.array_form.specs.forms.Loops.{FormSurroundings, form_names_of}
use Rattle.array_form.specs.forms.Forms.{form}
use Rattle.array_form.specs.forms.Statements.{array_assignment, guarded_by, guarded_form, left_form, loops_assigned}
use Rattle.array_form.specs.forms.Statements.{loops_from, right_form, stand_in_guard, form_tests_of}
use Rattle.emission.specs.emission_pieces.Nests.{loops_at, standing_at}
use Rattle.emission.specs.emission_pieces.Pieces.{Formed, Kept, Piece, Pieces, Turning, block_of_piece, block_of_pieces}
use Rattle.emission.specs.emission_pieces.Pieces.{kept_assignment, mark_of, no_pieces, piece}
use Rattle.meaning.specs.Dialect.{Dialect}
use Rattle.meaning.specs.Run.{State, does, does_all}
use Rattle.tree.specs.Plain.{Block, Expression, If, Reference, Statement, Where, arm, no_arms, no_statements, statement}
use Rattle.tree.specs.declared.stmts.Mark.{Mark}
use Rattle.nest_order.specs.runs.Quiet.{AreQuiet, IsQuiet}
use Rattle.nest.specs.Allocations.{block_then}
use Rattle.nest.specs.Blocks.{under_guard}
use Rattle.nest.specs.Plain.{Guarded, Nest}
use Rattle.pass_laws.specs.prepared_runs.Unlabelled.{HasNoLabel, IsNoLabel}
use Rattle.array_form.specs.holds.Surroundings.{surroundings_of}

-- ---- blocks one after the other

pub then_quiet : (a b : Block) → AreQuiet a → AreQuiet b → AreQuiet (block_then a b)
then_quiet no_statements b h k = k
then_quiet (statement c cs) b h k = (h.0, then_quiet cs b h.1 k)

pub then_no_label : (a b : Block) → HasNoLabel a → HasNoLabel b → HasNoLabel (block_then a b)
then_no_label no_statements b h k = k
then_no_label (statement c cs) b h k = (h.0, then_no_label cs b h.1 k)

pub does_then : (lang : Dialect) (limit : Option ℕ) (a b : Block) (s : State) → does_all lang limit (block_then a b) s ≡ does_all lang limit b (does_all lang limit a s)
does_then lang limit no_statements b s = refl
does_then lang limit (statement c cs) b s = does_then lang limit cs b (does lang limit c s)

-- ---- statements under conditions

-- what is so of an assignment and of an IF round it is so of a kept statement
pub of_kept : (P : Statement → Type 0) (line : ℕ) (guard : Option Expression) (c : Statement) → P c → ((test : Expression) → P (If line (arm test (statement c no_statements) no_arms) no_statements))
    → P (under_guard line guard c)
of_kept P line None c h k = h
of_kept P line (Some e) c h k = k e

-- and what is so of a WHERE too is so of an array form
pub of_form : (P : Statement → Type 0) (a : FormSurroundings) (k line : ℕ) (mark : Option Mark) (guard : Option Expression) (left : Reference) (right : Expression)
    → P (array_assignment a k line mark left right) → ((mask : Expression) → P (Where line mark mask (left_form a k left) (right_form a k left right)))
    → ((test : Expression) → P (If line (arm test (statement (array_assignment a k line mark left right) no_statements) no_arms) no_statements)) → P (guarded_form a k line mark guard left right)
of_form P a k line mark None left right x y z = x
of_form P a k line mark (Some e) left right x y z = by (stand_in_guard (loops_assigned a k left) (Some e))
  where
    by : (b : Bool) → P (cond b (Where line mark (form a (loops_assigned a k left) e) (left_form a k left) (right_form a k left right))
        (If line (arm e (statement (array_assignment a k line mark left right) no_statements) no_arms) no_statements))
    by true = y (form a (loops_assigned a k left) e)
    by false = z e

-- ---- pieces

conditions_quiet : (line : ℕ) (es : List Expression) (c : Statement) → IsQuiet c → AreQuiet (guarded_by line es (statement c no_statements))
conditions_quiet line [] c h = (h, tt)
conditions_quiet line (e ∷ es) c h = ((((h, tt), tt), tt), tt)

conditions_no_label : (line : ℕ) (es : List Expression) (c : Statement) → IsNoLabel c → HasNoLabel (guarded_by line es (statement c no_statements))
conditions_no_label line [] c h = (h, tt)
conditions_no_label line (e ∷ es) c h = (tt, tt)

module _ (n : Nest) where
  abbrev around : ℕ → FormSurroundings
  around s = surroundings_of n (loops_at n s)

  abbrev own : ℕ → Guarded
  own s = (standing_at n s).statement

  mutual
    piece_quiet : (k : ℕ) (p : Piece) → AreQuiet (block_of_piece n k p)
    piece_quiet k (Kept s) = (of_kept IsQuiet (own s).line (own s).guard (kept_assignment n s) tt (λ e. (((tt, tt), tt), tt)), tt)
    piece_quiet k (Formed s) =
        conditions_quiet (own s).line (form_tests_of (form_names_of (around s)) (loops_from (around s) k)) (guarded_form (around s) k (own s).line (Some (mark_of n s k)) (own s).guard (own s).left (own s).right)
        (of_form IsQuiet (around s) k (own s).line (Some (mark_of n s k)) (own s).guard (own s).left (own s).right tt (λ e. tt) (λ e. (((tt, tt), tt), tt)))
    piece_quiet k (Turning l ps) = (pieces_quiet (suc k) ps, tt)

    pub pieces_quiet : (k : ℕ) (ps : Pieces) → AreQuiet (block_of_pieces n k ps)
    pieces_quiet k no_pieces = tt
    pieces_quiet k (piece p ps) = then_quiet (block_of_piece n k p) (block_of_pieces n k ps) (piece_quiet k p) (pieces_quiet k ps)

  piece_no_label : (k : ℕ) (p : Piece) → HasNoLabel (block_of_piece n k p)
  piece_no_label k (Kept s) = (of_kept IsNoLabel (own s).line (own s).guard (kept_assignment n s) tt (λ e. tt), tt)
  piece_no_label k (Formed s) =
      conditions_no_label (own s).line (form_tests_of (form_names_of (around s)) (loops_from (around s) k)) (guarded_form (around s) k (own s).line (Some (mark_of n s k)) (own s).guard (own s).left (own s).right)
      (of_form IsNoLabel (around s) k (own s).line (Some (mark_of n s k)) (own s).guard (own s).left (own s).right tt (λ e. tt) (λ e. tt))
  piece_no_label k (Turning l ps) = (tt, tt)

  pub pieces_no_label : (k : ℕ) (ps : Pieces) → HasNoLabel (block_of_pieces n k ps)
  pieces_no_label k no_pieces = tt
  pieces_no_label k (piece p ps) = then_no_label (block_of_piece n k p) (block_of_pieces n k ps) (piece_no_label k p) (pieces_no_label k ps)
