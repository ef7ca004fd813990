-- Blocks put one behind the other, and the pieces that they are.
use Rattle.std.proofs.Common.{◌≡◌, refl, sym, ap, subst, ◌∙◌, ℕ, ◌+◌, ◌<◌, ◌≤◌, List, [], ◌∷◌, ◌++◌, length, get_or, map, take, Result, Ok, Err, Option, Some}
use Rattle.std.specs.Prelude.{IfOk}
use mathlib.Core.Path.{ap₂}
use Rattle.std.proofs.lemmas.List.{map-append, take_all, take_more}
use Rattle.std.specs.Option.{option_map}
use Rattle.tree.specs.Plain.{Expression, Statement, Block, no_statements, statement, block}
use Rattle.tree.specs.View.{block_of, expression_of, statement_of}
use Rattle.tree.specs.declared.exprs.Expr.{Expr}
use Rattle.tree.specs.declared.lists.Seq.{Seq}
use Rattle.tree.specs.declared.stmts.Arm.{Arm, roll-Arm}
use Rattle.tree.specs.declared.stmts.Stmt.TheVariants as stmts
use Rattle.tree.specs.declared.lists.Memory.{Memory}
use Rattle.tree.specs.declared.stmts.Block.{Block as Block', out-Block, roll-Block}
use Rattle.tree.specs.declared.stmts.Stmt.{Stmt}
use Rattle.tree.proofs.Equations.{block_of-is, block_of-made, expression_equations, statement_equations}
use Rattle.dependence_graph.specs.declared.graphs.Edge.{Edge}
use Rattle.dependence_graph.specs.declared.graphs.Hold.{Hold}
use Rattle.array_form.proofs.StatementLaws.{if_ok}
use Rattle.array_form.specs.Statement.{block_of_one, under_condition}
use Rattle.emission.specs.emission_pieces.Emission.{AreEmittedFor, HasToTurn, IsEmittedFor}
use Rattle.emission.specs.emission_pieces.Levels.{AreComponents}
use Rattle.emission.specs.emission_pieces.Pieces.{Piece, Kept, Formed, Turning, Pieces, no_pieces, piece, block_of_piece, block_of_pieces, formed_block, kept_statement, turning_statement}
use Rattle.nest.specs.Allocations.{block_then}
use Rattle.nest.specs.Plain.{Nest}
use Rattle.emission.specs.nest_emission.Blocks.{IsBlockFor, IsBlockForAll, IsBlockInLoop, IsBlockOfPart}

pub weaker : {X E : Type 0} (P Q : X → Type 0) → ((x : X) → P x → Q x) → (r : Result X E) → IfOk r P → IfOk r Q
weaker P Q f (Ok x) h = f x h
weaker P Q f (Err e) h = h

pub then_nothing : (b : Block) → block_then b no_statements ≡ b
then_nothing no_statements = refl
then_nothing (statement c cs) = ap (statement c) (then_nothing cs)

pub then_assoc : (a b c : Block) → block_then (block_then a b) c ≡ block_then a (block_then b c)
then_assoc no_statements b c = refl
then_assoc (statement s ss) b c = ap (statement s) (then_assoc ss b c)

pub block-append : (xs ys : List Statement) → block (xs ++ ys) ≡ block_then (block xs) (block ys)
block-append [] ys = refl
block-append (x ∷ xs) ys = ap (statement x) (block-append xs ys)

pub appended : (old new : List Stmt) (more : Block') → new ≡ old ++ (out-Block more).stmts
    → block (map statement_of new) ≡ block_then (block (map statement_of old)) (block_of more)
appended old new more e =
    ap (λ (ss : List Stmt). block (map statement_of ss)) e ∙ ap block (map-append statement_of old (out-Block more).stmts)
    ∙ block-append (map statement_of old) (map statement_of (out-Block more).stmts) ∙ ap (block_then (block (map statement_of old))) (sym (block_of-is more))

-- a block under a guard
pub under_ok : (line : ℕ) (guard : Option Expr) (condition test : Expr) (body : Block') (given : Seq Arm) (none : Seq Stmt) (r : Result Block' Memory) → guard ≡ Some condition
    → expression_of test ≡ expression_of condition → given ≡ roll-Arm (record { test = test; body = body }) ∷ [] → none ≡ []
    → IfOk r (λ b. block_of b ≡ block_of_one (statement_of (stmts.If line given (roll-Block (record { stmts = none })))))
    → IfOk r (λ b. block_of b ≡ under_condition line (option_map expression_of guard) (block_of body))
under_ok line guard condition test body given none r is same g m h =
    weaker (λ b. block_of b ≡ under_condition line (Some (expression_of test)) (block_of body)) (λ b. block_of b ≡ under_condition line (option_map expression_of guard) (block_of body))
    (λ b e. e ∙ (ap (λ (x : Expression). under_condition line (Some x) (block_of body)) same ∙ ap (λ (o : Option Expr). under_condition line (option_map expression_of o) (block_of body)) (sym is))) r
    (if_ok line test body given none (Some test) r refl g m h)

-- ---- pieces

abbrev with_piece : Pieces → Piece → Pieces
with_piece no_pieces p = piece p no_pieces
with_piece (piece q ps) p = piece q (with_piece ps p)

pieces_then : (n : Nest) (k : ℕ) (ps : Pieces) (p : Piece) → block_of_pieces n k (with_piece ps p) ≡ block_then (block_of_pieces n k ps) (block_of_piece n k p)
pieces_then n k no_pieces p = then_nothing (block_of_piece n k p)
pieces_then n k (piece q ps) p =
    ap (block_then (block_of_piece n k q)) (pieces_then n k ps p) ∙ sym (then_assoc (block_of_piece n k q) (block_of_pieces n k ps) (block_of_piece n k p))

module _ (n : Nest) (edges : List Edge) (holds : List Hold) (k : ℕ) where
  emitted_more : (cs : List (List ℕ)) (ps : Pieces) (c : List ℕ) (p : Piece) → AreEmittedFor n edges holds k cs ps → IsEmittedFor n edges holds k c p
      → AreEmittedFor n edges holds k (cs ++ c ∷ []) (with_piece ps p)
  emitted_more [] no_pieces c p h g = (g, tt)
  emitted_more [] (piece q ps) c p h g = absurd h
  emitted_more (d ∷ cs) no_pieces c p h g = absurd h
  emitted_more (d ∷ cs) (piece q ps) c p h g = (h.0, emitted_more cs ps c p h.1 g)

  pub none_yet : IsBlockForAll n edges holds k [] no_statements
  none_yet = record { pieces = no_pieces; emitted = tt; block = refl }

  pub one_more : (classes : List (List ℕ)) (i : ℕ) (c : List ℕ) (old b new : Block) → i < length classes → c ≡ get_or classes i c
      → IsBlockForAll n edges holds k (take i classes) old → IsBlockFor n edges holds k c b → new ≡ block_then old b
      → IsBlockForAll n edges holds k (take (i + 1) classes) new
  one_more classes i c old b new inside is h g e =
      let more : take (i + 1) classes ≡ take i classes ++ c ∷ [] = take_more classes i c inside ∙ ap (λ x. take i classes ++ x ∷ []) (sym is) in
      subst (λ cs. IsBlockForAll n edges holds k cs new) (sym more) (record {
        pieces = with_piece h.pieces g.it;
        emitted = emitted_more (take i classes) h.pieces c g.it h.emitted g.emitted;
        block = e ∙ (ap₂ block_then h.block g.block ∙ sym (pieces_then n k h.pieces g.it));
      })

  pub of_part : (part : List ℕ) (classes : List (List ℕ)) (b : Block) → AreComponents edges k part classes → IsBlockForAll n edges holds k classes b
      → IsBlockOfPart n edges holds k part b
  of_part part classes b h g = record {
    pieces = g.pieces;
    emitted = record { classes = classes; components = h; emitted = g.emitted };
    block = g.block;
  }

  pub kept : (c : List ℕ) (s : ℕ) (b : Block) → IsEmittedFor n edges holds k c (Kept s) → b ≡ block_of_one (kept_statement n s) → IsBlockFor n edges holds k c b
  kept c s b h e = record { it = Kept s; emitted = h; block = e }

  pub formed : (c : List ℕ) (s : ℕ) (b : Block) → IsEmittedFor n edges holds k c (Formed s) → b ≡ formed_block n k s → IsBlockFor n edges holds k c b
  formed c s b h e = record { it = Formed s; emitted = h; block = e }

  pub in_loop : (c : List ℕ) (b : Block) → HasToTurn n edges holds k c → IsBlockInLoop n edges holds k c b → IsBlockFor n edges holds k c b
  in_loop c b turns h = record {
    it = Turning h.loop h.part.pieces;
    emitted = (h.is_loop, turns, (h.part.emitted.classes, h.part.emitted.components, h.part.emitted.emitted));
    block = h.block ∙ ap (λ body. block_of_one (turning_statement n h.loop body)) h.part.block;
  }

  -- ---- as the calls answer them

  pub kept_class : (c : List ℕ) (s : ℕ) (r : Result Block' Memory) → IsEmittedFor n edges holds k c (Kept s) → IfOk r (λ b. block_of b ≡ block_of_one (kept_statement n s))
      → IfOk r (λ b. IsBlockFor n edges holds k c (block_of b))
  kept_class c s (Ok b) h e = kept c s (block_of b) h e
  kept_class c s (Err f) h e = e

  pub formed_class : (c : List ℕ) (s : ℕ) (r : Result Block' Memory) → IsEmittedFor n edges holds k c (Formed s) → IfOk r (λ b. block_of b ≡ formed_block n k s)
      → IfOk r (λ b. IsBlockFor n edges holds k c (block_of b))
  formed_class c s (Ok b) h e = formed c s (block_of b) h e
  formed_class c s (Err f) h e = e

  pub turning_class : (c : List ℕ) (r : Result Block' Memory) → HasToTurn n edges holds k c → IfOk r (λ b. IsBlockInLoop n edges holds k c (block_of b))
      → IfOk r (λ b. IsBlockFor n edges holds k c (block_of b))
  turning_class c (Ok b) turns h = in_loop c (block_of b) turns h
  turning_class c (Err f) turns h = h

  pub part_done : (part : List ℕ) (classes items : List (List ℕ)) (i : ℕ) (ss made : List Stmt) → AreComponents edges k part classes → items ≡ classes → length items ≤ i
      → IsBlockForAll n edges holds k (take i items) (block (map statement_of ss)) → made ≡ ss
      → IsBlockOfPart n edges holds k part (block_of (roll-Block (record { stmts = made })))
  part_done part classes items i ss made h same past g e =
      subst (IsBlockOfPart n edges holds k part) (sym (block_of-made made ∙ ap (λ (cs : List Stmt). block (map statement_of cs)) e))
      (of_part part classes (block (map statement_of ss)) h
      (subst (λ cs. IsBlockForAll n edges holds k cs (block (map statement_of ss))) (take_all i items past ∙ same) g))

pub ruleset tree_equations = (statement_equations, expression_equations)
