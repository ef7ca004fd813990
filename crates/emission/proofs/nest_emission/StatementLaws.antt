-- One statement, as it is and in array form.
use Rattle.std.proofs.Common.{◌≡◌, refl, sym, ap, subst, ◌∙◌, ℕ, ◌+◌, ◌-◌, ◌<◌, ◌≤◌, ◌^◌, List, length, map, Option, Some, None, Result, Ok, Err, arith}
use mathlib.Core.Path.{ap₂}
use Rattle.std.specs.Prelude.{All, IfOk}
use Rattle.std.specs.Option.{option_map}
use Rattle.std.proofs.lemmas.List.{length-map}
use Rattle.tree.specs.Plain.{Assignment, Block, Expression, Reference, Statement}
use Rattle.tree.specs.View.{block_of, expression_of, reference_of, statement_of}
use Rattle.tree.specs.declared.lists.Memory.{Memory}
use Rattle.tree.specs.declared.stmts.Block.{Block as Block'}
use Rattle.tree.specs.declared.exprs.Expr.{Expr}
use Rattle.tree.specs.declared.exprs.Ref.{Ref}
use Rattle.tree.specs.declared.stmts.Mark.{Mark}
use Rattle.tree.specs.declared.stmts.Stmt.TheVariants as stmts
use Rattle.tree.proofs.Equations.{statement_of-assign}
use Rattle.subscripts.specs.Shapes.{IsForm}
use Rattle.array_form.specs.Loops.{AreLoopsOf, HasPlaces}
use Rattle.array_form.specs.Statement.{block_of_one, under_condition}
use Rattle.array_form.proofs.SurroundingLaws.{has_places, own_loops}
use Rattle.array_form.specs.forms.Loops as forms
use Rattle.array_form.specs.forms.Statements.{array_form_of}
use Rattle.emission.specs.emission_pieces.Nests.{loops_at, standing_at}
use Rattle.emission.specs.emission_pieces.Pieces.{formed_block, kept_assignment, kept_statement, mark_of}
use Rattle.nest.specs.Blocks.{under_guard}
use Rattle.nest.specs.Bodies as bodies
use Rattle.nest.specs.Plain.{Loop, Nest}
use Rattle.nest.specs.View.{loop_of}
use Rattle.array_form.specs.holds.Surroundings.{counted_loop, known_trip, surroundings_of}
use Rattle.array_form.specs.holds.View.{surroundings_view}
use Rattle.array_form.specs.declared.holds.loops.Surroundings.{Surroundings}
use Rattle.nest.specs.statement_loops.Standings.{standing_of}
use Rattle.nest.specs.declared.statement_loops.standings.Standing.{Standing}
use Rattle.emission.specs.nest_emission.Given.{HasLoopForms}

-- the block of a statement under its guard
guarded_block : (line : ℕ) (guard : Option Expression) (c : Statement) → under_condition line guard (block_of_one c) ≡ block_of_one (under_guard line guard c)
guarded_block line None c = refl
guarded_block line (Some e) c = refl

module _ (n : Nest) (s : ℕ) (x : Standing) (same : standing_of x ≡ standing_at n s) where
  assignment_is : (mark : Mark) (left : Ref) (right : Expr) → mark ≡ mark_of n s (length x.loops + 1) → reference_of left ≡ reference_of x.stmt.left
      → expression_of right ≡ expression_of x.stmt.right → statement_of (stmts.Assign x.stmt.line (Some mark) left right) ≡ kept_assignment n s
  assignment_is mark left right m l r =
      statement_of-assign x.stmt.line (Some mark) left right
      ∙ (ap₂ (λ (a : Reference) (b : Expression). Assignment x.stmt.line (Some mark) a b) l r
      ∙ (ap (λ (q : Mark). Assignment x.stmt.line (Some q) (reference_of x.stmt.left) (expression_of x.stmt.right)) (m ∙ ap (λ z. mark_of n s (z + 1)) (sym (length-map x.loops loop_of)))
      ∙ ap (λ (y : bodies.Standing). Assignment y.statement.line (Some (mark_of n s (length y.loops + 1))) y.statement.left y.statement.right) same))

  kept_is : (body : Block) → body ≡ block_of_one (kept_assignment n s)
      → under_condition x.stmt.line (option_map expression_of x.stmt.guard) body ≡ block_of_one (kept_statement n s)
  kept_is body e =
      ap (under_condition x.stmt.line (option_map expression_of x.stmt.guard)) e
      ∙ (guarded_block x.stmt.line (option_map expression_of x.stmt.guard) (kept_assignment n s)
      ∙ ap (λ (y : bodies.Standing). block_of_one (under_guard y.statement.line y.statement.guard (kept_assignment n s))) same)

  pub kept_ok : (r : Result Block' Memory) (mark : Mark) (left : Ref) (right : Expr) (body : Block) → mark ≡ mark_of n s (length x.loops + 1) → reference_of left ≡ reference_of x.stmt.left
      → expression_of right ≡ expression_of x.stmt.right → body ≡ block_of_one (statement_of (stmts.Assign x.stmt.line (Some mark) left right))
      → IfOk r (λ b. block_of b ≡ under_condition x.stmt.line (option_map expression_of x.stmt.guard) body)
      → IfOk r (λ b. block_of b ≡ block_of_one (kept_statement n s))
  kept_ok (Ok b) mark left right body m l r e h = h ∙ kept_is body (e ∙ ap block_of_one (assignment_is mark left right m l r))
  kept_ok (Err f) mark left right body m l r e h = h

  loops_same : map loop_of x.loops ≡ loops_at n s
  loops_same = ap (λ (y : bodies.Standing). y.loops) same

  module _ (a : Surroundings) (view : surroundings_view a ≡ surroundings_of n (map loop_of x.loops)) (own : a.loops ≡ map counted_loop (map loop_of x.loops)) where
    pub places_of : HasLoopForms (standing_at n s) → length n.symbols < 2 ^ 16 → HasPlaces a
    places_of h symbols = has_places a n (map loop_of x.loops) view own (subst (λ (ls : List Loop). length ls ≤ 7) (sym loops_same) h.few) symbols

    pub loops_of : HasLoopForms (standing_at n s) → AreLoopsOf a a.loops
    loops_of h =
        own_loops a (map loop_of x.loops) own
        (subst (λ (ls : List Loop). All (λ (m : Loop). IsForm (length ls) (known_trip m.trip).top) ls) (sym loops_same) h.trips)

    pub from_within : (k : ℕ) → k ≤ length (loops_at n s) → k - 1 ≤ length a.loops
    from_within k within =
        let size : length a.loops ≡ length (loops_at n s) = ap length own ∙ (length-map (map loop_of x.loops) counted_loop ∙ ap length loops_same) in
        omega arith

    pub formed_is : (k : ℕ) (mark : Mark) (b : Block) → 1 ≤ k → mark ≡ mark_of n s k
        → b ≡ array_form_of (surroundings_view a) ((k - 1) + 1) x.stmt.line (Some mark) (option_map expression_of x.stmt.guard) (reference_of x.stmt.left) (expression_of x.stmt.right)
        → b ≡ formed_block n k s
    formed_is k mark b one m e =
        let level : (k - 1) + 1 ≡ k = omega arith in
        e ∙ (ap (λ (w : forms.FormSurroundings). array_form_of w ((k - 1) + 1) x.stmt.line (Some mark) (option_map expression_of x.stmt.guard) (reference_of x.stmt.left) (expression_of x.stmt.right)) view
        ∙ (ap (λ j. array_form_of (surroundings_of n (map loop_of x.loops)) j x.stmt.line (Some mark) (option_map expression_of x.stmt.guard) (reference_of x.stmt.left) (expression_of x.stmt.right)) level
        ∙ (ap (λ (q : Mark). array_form_of (surroundings_of n (map loop_of x.loops)) k x.stmt.line (Some q) (option_map expression_of x.stmt.guard) (reference_of x.stmt.left) (expression_of x.stmt.right)) m
        ∙ ap (λ (y : bodies.Standing). array_form_of (surroundings_of n y.loops) k y.statement.line (Some (mark_of n s k)) y.statement.guard y.statement.left y.statement.right) same)))

    pub formed_ok : (r : Result Block' Memory) (k : ℕ) (mark : Mark) → 1 ≤ k → mark ≡ mark_of n s k
        → IfOk r (λ b. block_of b ≡ array_form_of (surroundings_view a) ((k - 1) + 1) x.stmt.line (Some mark) (option_map expression_of x.stmt.guard) (reference_of x.stmt.left) (expression_of x.stmt.right))
        → IfOk r (λ b. block_of b ≡ formed_block n k s)
    formed_ok (Ok b) k mark one m e = formed_is k mark (block_of b) one m e
    formed_ok (Err f) k mark one m e = e
