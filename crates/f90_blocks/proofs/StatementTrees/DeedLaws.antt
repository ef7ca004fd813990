-- What actions do.
use Rattle.std.proofs.Common.{◌≡◌, ◌∙◌, ap, sym, refl, subst, ℕ, true, false, Bool, not, ◌&&◌, List, map}
use Rattle.std.proofs.Common.{Option, Some, None}
use mathlib.Core.Path.{ap₂}
use Rattle.tree.specs.Plain as tree
use Rattle.tree.specs.Plain.{Statement}
use Rattle.tree.specs.View.{expression_of, item_of}
use Rattle.tree.specs.declared.exprs.Expr.{Expr}
use Rattle.tree.specs.declared.exprs.Ref.{Ref}
use Rattle.tree.specs.declared.functions.Intrinsic.{Intrinsic}
use Rattle.tree.specs.declared.stmts.Item.{Item}
use Rattle.tree.specs.declared.stmts.Mark.{Mark}
use Rattle.tree.specs.declared.stmts.Stmt.{Stmt}
use Rattle.tree.specs.declared.stmts.Stmt.TheVariants as stmts
use Rattle.tree.proofs.Equations.{statement_of-assign, statement_of-go, statement_of-stop, statement_of-read}
use Rattle.tree.proofs.Equations.{statement_of-print}
use Rattle.f90_grammar.specs.Blocks.{Placed, placed_form, IsSimple}
use Rattle.reading.specs.Signs.{reference_in}
use Rattle.f90_grammar.specs.Blocks.IsSimple.{assigns, masks, goes, stops, reads, reads_nothing, prints, prints_nothing}
use Rattle.f90_grammar.specs.Blocks.IsSimple.{allocates, deallocates}
use Rattle.f90_grammar.specs.Forms as forms
use Rattle.f90_grammar.specs.Forms.{Form90}
use Rattle.f90_grammar.specs.Items.{item_trees90}
use Rattle.f90_grammar.specs.Order.{is_executable90}
use Rattle.f90_grammar.specs.Phrases.{Phrase90, tree_of, value_of_digits}
use Rattle.f90_grammar.specs.Reading.{takes_mark}
use Rattle.f90_statement.specs.declared.items.nodes.ItemList.{ItemList}
use Rattle.f90_statement.specs.Views.{IsActionOf}
use Rattle.f90_statement.specs.declared.nodes.Action.TheVariants as actions
use Rattle.f90_trees.specs.Building.{held}
use Rattle.f90_blocks.specs.statement_trees.Executable.{IsMarkOf, stores_into_call, has_tree}
use Rattle.f90_blocks.specs.statement_trees.Held.{IsHeldStmtOf}
use Rattle.f90_blocks.specs.statement_trees.Results.{IsLeftOf, IsListed, IsDeedOf, IsAlone, Gives}
use Rattle.f90_blocks.specs.declared.statement_trees.nodes.StatementTree.{StatementTree}
use Rattle.f90_blocks.specs.declared.statement_trees.nodes.StatementTree.TheVariants as trees
use Rattle.f90_blocks.specs.declared.statement_trees.statements.Deed.{Deed}
use Rattle.f90_blocks.specs.declared.statement_trees.statements.Deed.TheVariants.{Does, IsCall}

module _ (function : List ℕ → Option Intrinsic) (line : ℕ) where
  abbrev IsDone : Option Mark → Form90 → Stmt → Type 0
  IsDone m f s = IsDeedOf function (placed_form line m f) (Does (Some s))

  -- without a mark
  unmarked : (m : Option Mark) (f : Form90) (s : Stmt) → IsMarkOf m f → takes_mark f ≡ false → IsDone None f s
      → IsDone m f s
  unmarked m f s k t h = subst (λ (q : Option Mark). IsDone q f s) (sym (k t)) h

  pub assign_done : (m : Option Mark) (l r : Phrase90) (left : Ref) (right : Expr) → IsLeftOf function l (Some left)
      → expression_of right ≡ held (tree_of function r)
      → IsDone m (forms.Assign l r) (stmts.Assign line m left right)
  assign_done m l r left right h k = (
    record {
      statement = tree.Assignment line m (reference_in (tree_of function l)) (tree_of function r);
      is = assigns line m l r;
      same = statement_of-assign line m left right ∙ ap₂ (tree.Assignment line m) h.1 k;
    },
    h.0,
  )

  pub go_done : (m : Option Mark) (n : ℕ) (f : Form90) → IsActionOf (actions.Go n) f → IsMarkOf m f
      → IsDone m f (stmts.Go line n)
  go_done m n (forms.Go label) h k =
      unmarked m (forms.Go label) (stmts.Go line n) k refl (
        record {
          statement = tree.GoTo line
              (value_of_digits label);
          is = goes line label;
          same = statement_of-go line n ∙ ap (tree.GoTo line) h;
        },
        refl,
      )
  go_done m n f h k = absurd h

  pub stop_done : (m : Option Mark) (f : Form90) → IsActionOf actions.Stop f → IsMarkOf m f → IsDone m f (stmts.Stop line)
  stop_done m forms.Stop h k =
      unmarked m forms.Stop (stmts.Stop line) k refl
      (record { statement = tree.Stop line; is = stops line; same = statement_of-stop line }, refl)
  stop_done m f h k = absurd h

  pub read_done : (m : Option Mark) (list : Option ItemList) (made : List Item) (f : Form90)
      → IsActionOf (actions.Read list) f → IsMarkOf m f → IsListed function list made
      → IsDone m f (stmts.Read line made)
  read_done m (Some l) made (forms.Read is) h k g =
      unmarked m (forms.Read is) (stmts.Read line made) k refl (
        record {
          statement = tree.Read line (tree.items (item_trees90 function is));
          is = reads line is;
          same = statement_of-read line made ∙ ap (tree.Read line) (g is h);
        },
        refl,
      )
  read_done m (Some l) made f h k g = absurd h
  read_done m None made forms.ReadNothing h k g =
      unmarked m forms.ReadNothing (stmts.Read line made) k refl (
        record {
          statement = tree.Read line tree.no_items;
          is = reads_nothing line;
          same = statement_of-read line made ∙ ap (λ (q : List Item). tree.Read line (tree.items (map item_of q))) g;
        },
        refl,
      )
  read_done m None made f h k g = absurd h

  pub print_done : (m : Option Mark) (list : Option ItemList) (made : List Item) (f : Form90)
      → IsActionOf (actions.Print list) f → IsMarkOf m f → IsListed function list made
      → IsDone m f (stmts.Print line made)
  print_done m (Some l) made (forms.Print is) h k g =
      unmarked m (forms.Print is) (stmts.Print line made) k refl (
        record {
          statement = tree.Print line (tree.items (item_trees90 function is));
          is = prints line is;
          same = statement_of-print line made ∙ ap (tree.Print line) (g is h);
        },
        refl,
      )
  print_done m (Some l) made f h k g = absurd h
  print_done m None made forms.PrintNothing h k g =
      unmarked m forms.PrintNothing (stmts.Print line made) k refl (
        record {
          statement = tree.Print line tree.no_items;
          is = prints_nothing line;
          same = statement_of-print line made ∙ ap (λ (q : List Item). tree.Print line (tree.items (map item_of q))) g;
        },
        refl,
      )
  print_done m None made f h k g = absurd h

-- ---- an action alone

simple_executable : (function : List ℕ → Option Intrinsic) (is_target : ℕ → Bool) (p : Placed) (s : Statement)
    → IsSimple function is_target p s → is_executable90 p.form ≡ true
simple_executable function is_target _ _ (assigns line m l r) = refl
simple_executable function is_target _ _ (masks line m p l r) = refl
simple_executable function is_target _ _ (goes line label) = refl
simple_executable function is_target _ _ (stops line) = refl
simple_executable function is_target _ _ (reads line is) = refl
simple_executable function is_target _ _ (reads_nothing line) = refl
simple_executable function is_target _ _ (prints line is) = refl
simple_executable function is_target _ _ (prints_nothing line) = refl
simple_executable function is_target _ _ (allocates line x es) = refl
simple_executable function is_target _ _ (deallocates line x) = refl

no_call : (a b : Bool) → b ≡ true → (a && not b) ≡ false
no_call true b h = ap not h
no_call false b h = refl

module _ (function : List ℕ → Option Intrinsic) where
  pub called_none : (f : Form90) → stores_into_call function f ≡ true → has_tree function f ≡ false
  called_none f h = no_call (is_executable90 f) (stores_into_call function f) h

  pub simple_given : (p : Placed) (s : Stmt) → IsHeldStmtOf function p s → stores_into_call function p.form ≡ false
      → Gives function p (Some (trees.Simple s))
  simple_given p s h k =
      (h, ap₂ (λ (a b : Bool). a && not b) (simple_executable function (λ n. false) p h.statement h.is) k)

  pub alone_given : (line : ℕ) (m : Option Mark) (f : Form90) (deed : Deed) (made : Option StatementTree)
      → IsMarkOf m f → IsDeedOf function (placed_form line m f) deed → IsAlone deed made
      → Gives function (placed_form line m f) made
  alone_given line m f (Does (Some s)) made k h e =
      subst (Gives function (placed_form line m f)) (sym e) (simple_given (placed_form line m f) s h.0 h.1)
  alone_given line m f (Does None) made k h e =
      subst (Gives function (placed_form line m f)) (sym e) (
        ap₂ (placed_form line) (k (ap takes_mark h.0)) h.0,
        ap
            (has_tree function) h.0,
      )
  alone_given line m f IsCall made k h e = subst (Gives function (placed_form line m f)) (sym e) (called_none f h)
