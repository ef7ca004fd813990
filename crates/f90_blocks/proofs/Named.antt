-- The labels that trees name are those that their statements name.
use Rattle.std.proofs.Common.{◌≡◌, ◌∙◌, ap, ap₂, sym, refl, ℕ, false, ◌||◌, Option, Some, None, List, [], ◌∷◌}
use Rattle.std.specs.List.{list_any}
use Rattle.tree.specs.Plain.{Statement}
use Rattle.tree.specs.View.{statement_of}
use Rattle.tree.specs.declared.functions.Intrinsic.{Intrinsic}
use Rattle.f90_laws.specs.blocks.Blocks.{goes_to, name_target}
use Rattle.f90_grammar.specs.Forms as forms
use Rattle.f90_grammar.specs.Forms.{Form90}
use Rattle.f90_grammar.specs.Blocks.{Placed, placed_form, IsSimple}
use Rattle.f90_grammar.specs.Blocks.IsSimple.{assigns, masks, goes, stops, reads, reads_nothing, prints, prints_nothing}
use Rattle.f90_grammar.specs.Blocks.IsSimple.{allocates, deallocates}
use Rattle.f90_grammar.specs.Order.{is_executable90}
use Rattle.f90_statement.specs.Views.{AreOf}
use Rattle.f90_blocks.specs.statement_trees.Trees.{IsTreeOf, IsTreeIn}
use Rattle.f90_blocks.specs.declared.statement_trees.nodes.StatementTree.{StatementTree}
use Rattle.f90_blocks.specs.declared.statement_trees.nodes.StatementTree.TheVariants.{Simple, Test, If, ElseIf, Else, EndIf}
use Rattle.f90_blocks.specs.declared.statement_trees.nodes.StatementTree.TheVariants.{Do, EndDo, Continue}
use Rattle.f90_blocks.specs.declared.nodes.Treed.{Treed}
use Rattle.f90_blocks.specs.Targets.{target_of, target_in, target_if, target_at, names}
use Rattle.f90_blocks.specs.Treed.{IsTreedOf}

module _ (function : List ℕ → Option Intrinsic) (n : ℕ) where
  abbrev Goes : Placed → Option ℕ → Type 0
  Goes p target = goes_to n p.form ≡ names target n

  simple_goes : (p : Placed) (c : Statement) → IsSimple function (λ n. false) p c → Goes p (target_of c)
  simple_goes p c (assigns line m l r) = refl
  simple_goes p c (masks line m q l r) = refl
  simple_goes p c (goes line digits) = refl
  simple_goes p c (stops line) = refl
  simple_goes p c (reads line is) = refl
  simple_goes p c (reads_nothing line) = refl
  simple_goes p c (prints line is) = refl
  simple_goes p c (prints_nothing line) = refl
  simple_goes p c (allocates line x es) = refl
  simple_goes p c (deallocates line x) = refl

  goes_by_form : (p : Placed) (f : Form90) → p.form ≡ f → goes_to n f ≡ false → goes_to n p.form ≡ false
  goes_by_form p f e h = ap (goes_to n) e ∙ h

  is_form : (p : Placed) (f : Form90) → p ≡ placed_form p.line None f → goes_to n f ≡ false → goes_to n p.form ≡ false
  is_form p f e h = goes_by_form p f (ap (λ (x : Placed). x.form) e) h

  tree_goes : (p : Placed) (t : StatementTree) → IsTreeOf function p t → Goes p (target_in t)
  tree_goes p (Simple s) h = simple_goes p (statement_of s) h
  tree_goes p (Test e (Some s)) h = ap (goes_to n) h.2 ∙ simple_goes (placed_form p.line p.mark h.1) (statement_of s) h.4
  tree_goes p (Test e None) h = ap (goes_to n) h.2 ∙ ap (goes_to n) h.4
  tree_goes p (If e) h = is_form p (forms.If h.0) h.1 refl
  tree_goes p (ElseIf e) h = is_form p (forms.ElseIf h.0) h.1 refl
  tree_goes p Else h = is_form p forms.Else h refl
  tree_goes p EndIf h = is_form p forms.EndIf h refl
  tree_goes p (Do x a b c) h = is_form p (forms.Do x h.0 h.1 h.2) h.3 refl
  tree_goes p EndDo h = is_form p forms.EndDo h refl
  tree_goes p (Continue None) h = is_form p (forms.Continue []) h refl
  tree_goes p (Continue (Some m)) h = is_form p (forms.Continue (h.0 ∷ h.1)) h.2 refl

  idle_goes : (f : Form90) → is_executable90 f ≡ false → goes_to n f ≡ false
  idle_goes (forms.Program x) e = refl
  idle_goes forms.ImplicitNone e = refl
  idle_goes (forms.Declare k a es) e = refl
  idle_goes forms.End e = refl
  idle_goes (forms.EndProgram x) e = refl
  idle_goes f e = absurd cc

  any_goes : (p : Placed) (t : Option StatementTree) → IsTreeIn function t p → Goes p (target_if t)
  any_goes p (Some t) h = tree_goes p t h
  any_goes p None h = idle_goes p.form h

  pub targets_named : (ts : List Treed) (ps : List Placed) → AreOf (IsTreedOf function) ts ps
      → list_any (λ (t : Treed). names (target_at t) n) ts ≡ name_target ps n
  targets_named [] [] a = refl
  targets_named (t ∷ ts) (p ∷ ps) a = ap₂ (λ x y. x || y) (sym (any_goes p t.tree a.0.is)) (targets_named ts ps a.1)
  targets_named [] (p ∷ ps) a = absurd a
  targets_named (t ∷ ts) [] a = absurd a
