-- Statements as the code holds them: literals up to the greatest, and dimensions of SPREAD up to 2^64-1.
use Rattle.std.specs.Prelude.{◌≡◌, ℕ, false, Option, Some, None, List, [], ◌∷◌}
use Rattle.tree.specs.View.{expression_of, statement_of}
use Rattle.tree.specs.Plain as tree
use Rattle.tree.specs.Plain.{Reference, Item, Items, Statement}
use Rattle.tree.specs.declared.functions.Intrinsic.{Intrinsic}
use Rattle.tree.specs.declared.stmts.Stmt.{Stmt}
use Rattle.f90_grammar.specs.Phrases.{Phrase90, tree_of, value_of_digits}
use Rattle.f90_grammar.specs.Items.{item_trees90, step_tree90}
use Rattle.f90_grammar.specs.Forms as forms
use Rattle.f90_grammar.specs.Forms.{Form90}
use Rattle.f90_grammar.specs.Blocks.{Placed, IsSimple, placed_form, trees_by}
use Rattle.reading.specs.Signs.{reference_in}
use Rattle.f90_trees.specs.Building.{held, held_all, held_subscripts}
use Rattle.f90_blocks.specs.declared.statement_trees.nodes.StatementTree.{StatementTree}
use Rattle.f90_blocks.specs.declared.statement_trees.nodes.StatementTree.TheVariants.{Simple, Test, If, ElseIf, Else}
use Rattle.f90_blocks.specs.declared.statement_trees.nodes.StatementTree.TheVariants.{EndIf, Do, EndDo, Continue}

abbrev pub held_reference : Reference → Reference
held_reference r = record { name = r.name; subscripts = held_subscripts r.subscripts }

abbrev mutual
  pub held_item : Item → Item
  held_item (tree.Single e) = tree.Single (held e)
  held_item (tree.Constant t) = tree.Constant t
  held_item (tree.ImpliedDo is x a b c) = tree.ImpliedDo (held_items is) x (held a) (held b) (held c)

  pub held_items : Items → Items
  held_items tree.no_items = tree.no_items
  held_items (tree.item i is) = tree.item (held_item i) (held_items is)

-- a statement without others in it
abbrev pub held_statement : Statement → Statement
held_statement (tree.Assignment line m r e) = tree.Assignment line m (held_reference r) (held e)
held_statement (tree.Where line m p r e) = tree.Where line m (held p) (held_reference r) (held e)
held_statement (tree.Read line is) = tree.Read line (held_items is)
held_statement (tree.Print line is) = tree.Print line (held_items is)
held_statement (tree.Allocate line x es) = tree.Allocate line x (held_all es)
held_statement s = s

module _ (function : List ℕ → Option Intrinsic) where
  pub record IsHeldStmtOf (p : Placed) (s : Stmt) : Type 0 where
    pub statement : Statement
    pub is : IsSimple function (λ n. false) p statement
    pub same : statement_of s ≡ held_statement statement

  -- the statement that a logical IF does
  abbrev pub IsHeldDone : Placed → Option Stmt → Type 0
  IsHeldDone p (Some s) = IsHeldStmtOf p s
  IsHeldDone p None = p.form ≡ forms.Continue []

  -- the tree of a statement, but for numbers that are cut
  abbrev pub IsHeldTreeOf : Placed → StatementTree → Type 0
  IsHeldTreeOf p (Simple s) = IsHeldStmtOf p s
  IsHeldTreeOf p (Test e s) =
      (q : Phrase90) × (f : Form90) × (p.form ≡ forms.Test q f) × (expression_of e ≡ held (tree_of function q))
      × IsHeldDone (placed_form p.line p.mark f) s
  IsHeldTreeOf p (If e) =
      (q : Phrase90) × (p ≡ placed_form p.line None (forms.If q)) × (expression_of e ≡ held (tree_of function q))
  IsHeldTreeOf p (ElseIf e) =
      (q : Phrase90) × (p ≡ placed_form p.line None (forms.ElseIf q)) × (expression_of e ≡ held (tree_of function q))
  IsHeldTreeOf p Else = p ≡ placed_form p.line None forms.Else
  IsHeldTreeOf p EndIf = p ≡ placed_form p.line None forms.EndIf
  IsHeldTreeOf p (Do x a b c) =
      (q r : Phrase90) × (s : Option Phrase90) × (p ≡ placed_form p.line None (forms.Do x q r s))
      × (expression_of a ≡ held (tree_of function q)) × (expression_of b ≡ held (tree_of function r))
      × (expression_of c ≡ held (step_tree90 function s))
  IsHeldTreeOf p EndDo = p ≡ placed_form p.line None forms.EndDo
  IsHeldTreeOf p (Continue None) = p ≡ placed_form p.line None (forms.Continue [])
  IsHeldTreeOf p (Continue (Some n)) =
      (d : ℕ) × (ds : List ℕ) × (p ≡ placed_form p.line None (forms.Continue (d ∷ ds))) × (n ≡ value_of_digits (d ∷ ds))

  -- ---- nothing is cut

  abbrev pub IsHeld : Phrase90 → Type 0
  IsHeld p = held (tree_of function p) ≡ tree_of function p

  abbrev pub IsHeldLeft : Phrase90 → Type 0
  IsHeldLeft l = let r = reference_in (tree_of function l) in held_reference r ≡ r

  abbrev pub AreHeldItems : Items → Type 0
  AreHeldItems is = held_items is ≡ is

  -- the trees of the statement's expressions are held as they are
  abbrev pub IsHeldForm : Form90 → Type 0
  IsHeldForm (forms.Assign l r) = IsHeldLeft l × IsHeld r
  IsHeldForm (forms.Where m l r) = IsHeld m × IsHeldLeft l × IsHeld r
  IsHeldForm (forms.Test p f) = IsHeld p × IsHeldForm f
  IsHeldForm (forms.If p) = IsHeld p
  IsHeldForm (forms.ElseIf p) = IsHeld p
  IsHeldForm (forms.Do x a b c) = IsHeld a × IsHeld b × (held (step_tree90 function c) ≡ step_tree90 function c)
  IsHeldForm (forms.Read is) = AreHeldItems (tree.items (item_trees90 function is))
  IsHeldForm (forms.Print is) = AreHeldItems (tree.items (item_trees90 function is))
  IsHeldForm (forms.Allocate x es) =
      let ts = tree.expressions (trees_by (tree_of function) es) in held_all ts ≡ ts
  IsHeldForm f = Unit {0}
