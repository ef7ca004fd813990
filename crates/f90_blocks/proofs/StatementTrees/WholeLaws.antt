-- Where nothing is cut, what is held are the very trees.
use Rattle.std.proofs.Common.{◌≡◌, ◌∙◌, ap, sym, refl, subst, ℕ, false, List, Option, Some, None, IfSome}
use mathlib.Core.Path.{ap₂}
use Rattle.tree.specs.Plain as tree
use Rattle.tree.specs.Plain.{Expression, Reference, Statement}
use Rattle.tree.specs.declared.functions.Intrinsic.{Intrinsic}
use Rattle.tree.specs.declared.stmts.Stmt.{Stmt}
use Rattle.f90_grammar.specs.Blocks.{Placed, IsSimple, placed_form}
use Rattle.f90_grammar.specs.Blocks.IsSimple.{assigns, masks, goes, stops, reads, reads_nothing, prints, prints_nothing}
use Rattle.f90_grammar.specs.Blocks.IsSimple.{allocates, deallocates}
use Rattle.f90_grammar.specs.Forms.{Form90}
use Rattle.f90_blocks.specs.statement_trees.Held.{held_statement, IsHeldStmtOf, IsHeldDone, IsHeldTreeOf}
use Rattle.f90_blocks.specs.statement_trees.Held.{IsHeldForm}
use Rattle.f90_blocks.specs.statement_trees.Trees.{IsStmtOf, IsDone, IsTreeOf}
use Rattle.f90_blocks.specs.statement_trees.Results.{Gives}
use Rattle.f90_blocks.specs.declared.statement_trees.nodes.StatementTree.{StatementTree}
use Rattle.f90_blocks.specs.declared.statement_trees.nodes.StatementTree.TheVariants.{Simple, Test, If, ElseIf, Else, EndIf}
use Rattle.f90_blocks.specs.declared.statement_trees.nodes.StatementTree.TheVariants.{Do, EndDo, Continue}

module _ (function : List ℕ → Option Intrinsic) where
  masked_whole : (line : ℕ) (m : _) (p q : Expression) (l k : Reference) (r s : Expression) → p ≡ q → l ≡ k → r ≡ s
      → tree.Where line m p l r ≡ tree.Where line m q k s
  masked_whole line m p q l k r s e f g = ap (λ (x : Expression). tree.Where line m x l r) e
      ∙ ap₂ (tree.Where line m q) f g

  simple_whole : (is_target : ℕ → _) (p : Placed) (c : Statement) → IsSimple function is_target p c
      → IsHeldForm function p.form → held_statement c ≡ c
  simple_whole is_target _ _ (assigns line m l r) h = ap₂ (tree.Assignment line m) h.0 h.1
  simple_whole is_target _ _ (masks line m p l r) h = masked_whole line m _ _ _ _ _ _ h.0 h.1 h.2
  simple_whole is_target _ _ (goes line label) h = refl
  simple_whole is_target _ _ (stops line) h = refl
  simple_whole is_target _ _ (reads line is) h = ap (tree.Read line) h
  simple_whole is_target _ _ (reads_nothing line) h = refl
  simple_whole is_target _ _ (prints line is) h = ap (tree.Print line) h
  simple_whole is_target _ _ (prints_nothing line) h = refl
  simple_whole is_target _ _ (allocates line x es) h = ap (tree.Allocate line x) h
  simple_whole is_target _ _ (deallocates line x) h = refl

  stmt_whole : (p : Placed) (s : Stmt) → IsHeldStmtOf function p s → IsHeldForm function p.form → IsStmtOf function p s
  stmt_whole p s h k =
      let e = h.same ∙ simple_whole (λ n. false) p h.statement h.is k in
      subst (λ (c : Statement). IsSimple function (λ n. false) p c) (sym e) h.is

  done_whole : (p : Placed) (s : Option Stmt) → IsHeldDone function p s → IsHeldForm function p.form
      → IsDone function p s
  done_whole p (Some s) h k = stmt_whole p s h k
  done_whole p None h k = h

  at_form : (f g : Form90) → f ≡ g → IsHeldForm function f → IsHeldForm function g
  at_form f g e h = subst (IsHeldForm function) e h

  form_of : (p q : Placed) → p ≡ q → p.form ≡ q.form
  form_of p q e = ap (λ (x : Placed). x.form) e

  pub tree_whole : (p : Placed) (t : StatementTree) → IsHeldTreeOf function p t → IsHeldForm function p.form
      → IsTreeOf function p t
  tree_whole p (Simple s) h k = stmt_whole p s h k
  tree_whole p (Test e s) h k =
      let j = at_form _ _ h.2 k in (h.0, h.1, h.2, h.3 ∙ j.0, done_whole (placed_form p.line p.mark h.1) s h.4 j.1)
  tree_whole p (If e) h k = (h.0, h.1, h.2 ∙ at_form _ _ (form_of _ _ h.1) k)
  tree_whole p (ElseIf e) h k = (h.0, h.1, h.2 ∙ at_form _ _ (form_of _ _ h.1) k)
  tree_whole p Else h k = h
  tree_whole p EndIf h k = h
  tree_whole p (Do x a b c) h k =
      let j = at_form _ _ (form_of _ _ h.3) k in (h.0, h.1, h.2, h.3, h.4 ∙ j.0, h.5 ∙ j.1, h.6 ∙ j.2)
  tree_whole p EndDo h k = h
  tree_whole p (Continue None) h k = h
  tree_whole p (Continue (Some n)) h k = h

  pub given_whole : (p : Placed) (made : Option StatementTree) → IsHeldForm function p.form → Gives function p made
      → IfSome made (λ (t : StatementTree). IsTreeOf function p t)
  given_whole p (Some t) k h = tree_whole p t h.0 k
  given_whole p None k h = tt
