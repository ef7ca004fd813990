-- Statements give trees.
use Rattle.std.proofs.Common.{◌≡◌, ◌∙◌, ap, sym, refl, subst, ℕ, false, not, List, [], ◌∷◌, map, Option, Some}
use Rattle.std.proofs.Common.{None}
use mathlib.Core.Path.{ap₂}
use Rattle.tree.specs.Plain as tree
use Rattle.tree.specs.Plain.{Expression}
use Rattle.tree.specs.View.{expression_of, reference_of}
use Rattle.tree.specs.declared.exprs.Expr.{Expr}
use Rattle.tree.specs.declared.exprs.Ref.{Ref}
use Rattle.tree.specs.declared.functions.Intrinsic.{Intrinsic}
use Rattle.tree.specs.declared.stmts.Mark.{Mark}
use Rattle.tree.specs.declared.stmts.Stmt.TheVariants as stmts
use Rattle.tree.proofs.Equations.{statement_of-masked, statement_of-allocate, statement_of-deallocate}
use Rattle.f90_grammar.specs.Blocks as grammar
use Rattle.f90_grammar.specs.Blocks.{placed_form}
use Rattle.reading.specs.Signs.{reference_in}
use Rattle.f90_grammar.specs.Blocks.IsSimple.{masks, allocates, deallocates}
use Rattle.f90_grammar.specs.Forms as forms
use Rattle.f90_grammar.specs.Forms.{Form90}
use Rattle.f90_grammar.specs.Phrases.{Phrase90, tree_of}
use Rattle.f90_grammar.specs.Reading.{takes_mark}
use Rattle.f90_expressions.specs.Reading.{IsMadeOf}
use Rattle.f90_expressions.specs.declared.nodes.Expression.{Expression as Read}
use Rattle.f90_blocks.specs.places.forms.Places.{IsPlacedOf}
use Rattle.f90_blocks.specs.declared.places.forms.placing.Placed.{Placed}
use Rattle.f90_statement.specs.items.parts.Bounds.{AreBoundsOf}
use Rattle.f90_statement.specs.declared.items.parts.bounds.Bounds.{Bounds}
use Rattle.f90_statement.specs.Views.{IsStatementOf}
use Rattle.f90_statement.specs.declared.nodes.Statement.TheVariants as statements
use Rattle.f90_trees.specs.Building.{held, held_all}
use Rattle.f90_blocks.specs.statement_trees.Executable.{IsMarkOf}
use Rattle.f90_blocks.specs.statement_trees.Results.{IsLeftOf, Gives, AreBoundTrees, held_trees}
use Rattle.f90_blocks.specs.declared.statement_trees.nodes.StatementTree.{StatementTree}
use Rattle.f90_blocks.specs.declared.statement_trees.nodes.StatementTree.TheVariants as trees

all_held : (function : List ℕ → Option Intrinsic) (es : List Phrase90)
    → tree.expressions (held_trees function es) ≡ held_all (tree.expressions (grammar.trees_by (tree_of function) es))
all_held function [] = refl
all_held function (e ∷ es) = ap (tree.expression (held (tree_of function e))) (all_held function es)

module _ (function : List ℕ → Option Intrinsic) (line : ℕ) where
  abbrev Given : Option Mark → Form90 → StatementTree → Type 0
  Given m f t = Gives function (placed_form line m f) (Some t)

  abbrev IsTree : Read → Expr → Type 0
  IsTree e x = (p : Phrase90) → IsMadeOf e p → expression_of x ≡ held (tree_of function p)

  without_mark : (m : Option Mark) (f : Form90) → IsMarkOf m f → takes_mark f ≡ false → placed_form line m f ≡ placed_form line None f
  without_mark m f k t = ap (λ (q : Option Mark). placed_form line q f) (k t)

  pub masked_given : (m : Option Mark) (p l r : Phrase90) (mask : Expr) (left : Ref) (right : Expr)
      → expression_of mask ≡ held (tree_of function p) → IsLeftOf function l (Some left)
      → expression_of right ≡ held (tree_of function r)
      → Given m (forms.Where p l r) (trees.Simple (stmts.Masked line m mask left right))
  masked_given m p l r mask left right g h k = (
    record {
      statement = tree.Where line m (tree_of function p) (reference_in (tree_of function l)) (tree_of function r);
      is = masks line m p l r;
      same = statement_of-masked line m mask left right
          ∙ (ap (λ (q : Expression). tree.Where line m q (reference_of left) (expression_of right)) g
          ∙ ap₂ (tree.Where line m (held (tree_of function p))) h.1 k);
    },
    ap not h.0,
  )

  renamed : (m : Option Mark) (x y : List ℕ) (a b : Phrase90) (c : Option Phrase90) → x ≡ y
      → IsMarkOf m (forms.Do y a b c) → placed_form line m (forms.Do y a b c) ≡ placed_form line None (forms.Do x a b c)
  renamed m x y a b c e k = without_mark m (forms.Do y a b c) k refl
      ∙ ap (λ (q : List ℕ). placed_form line None (forms.Do q a b c)) (sym e)

  pub do_given : (m : Option Mark) (x : List ℕ) (bounds : Bounds) (r : Expr × Expr × Expr) (f : Form90)
      → IsStatementOf (statements.Do x bounds) f → IsMarkOf m f
      → ((a b : Phrase90) (c : Option Phrase90) → AreBoundsOf bounds a b c → AreBoundTrees function a b c r)
      → Given m f (trees.Do x r.0 r.1 r.2)
  do_given m x bounds r (forms.Do y a b c) h k t =
      let made = t a b c h.1 in ((a, b, c, renamed m x y a b c h.0 k, made.first, made.last, made.step), refl)
  do_given m x bounds r f h k t = absurd h

  pub allocate_given : (m : Option Mark) (x : List ℕ) (es : List Phrase90) (made : List Expr) → m ≡ None
      → map expression_of made ≡ held_trees function es
      → Given m (forms.Allocate x es) (trees.Simple (stmts.Allocate line x made))
  allocate_given m x es made k h =
      subst (λ (q : Option Mark). Given q (forms.Allocate x es) (trees.Simple (stmts.Allocate line x made))) (sym k) (
        record {
          statement = tree.Allocate line x (tree.expressions (grammar.trees_by (tree_of function) es));
          is = allocates line x es;
          same = statement_of-allocate line x made ∙ ap (tree.Allocate line x) (ap tree.expressions h
              ∙ all_held function es);
        },
        refl,
      )

  pub deallocate_given : (m : Option Mark) (x : List ℕ) (f : Form90) → IsStatementOf (statements.Deallocate x) f
      → IsMarkOf m f
      → Given m f (trees.Simple (stmts.Deallocate line x))
  deallocate_given m x (forms.Deallocate y) h k =
      subst (λ (q : Option Mark). Given q (forms.Deallocate y) (trees.Simple (stmts.Deallocate line x)))
      (sym (k refl)) (
        record {
          statement = tree.Deallocate line y;
          is = deallocates line y;
          same = statement_of-deallocate line x
              ∙ ap (tree.Deallocate line) h;
        },
        refl,
      )
  deallocate_given m x f h k = absurd h

-- ---- at its line, with its mark

pub placed_as : (function : List ℕ
    → Option Intrinsic) (k : Placed) (p : grammar.Placed) (made : Option StatementTree) → IsPlacedOf k p
    → Gives function (placed_form k.line k.mark p.form) made
    → Gives function p made
placed_as function k p made h g =
    let e : placed_form k.line k.mark p.form ≡ p = ap₂ (λ (l : ℕ) (m : Option Mark). placed_form l m p.form) h.line h.mark in
    subst (λ (q : grammar.Placed). Gives function q made) e g

pub mark_as : (k : Placed) (p : grammar.Placed) → IsPlacedOf k p → IsMarkOf p.mark p.form → IsMarkOf k.mark p.form
mark_as k p h i t = h.mark ∙ i t
