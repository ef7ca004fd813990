-- What functions return, unless memory ran out.
use Rattle.std.specs.Prelude.{◌≡◌, ℕ, true, false, Option, Some, None, List, [], map}
use Rattle.tree.specs.Plain.{Expression, items}
use Rattle.tree.specs.View.{expression_of, reference_of, item_of}
use Rattle.tree.specs.declared.exprs.Expr.{Expr}
use Rattle.tree.specs.declared.exprs.Ref.{Ref}
use Rattle.tree.specs.declared.functions.Intrinsic.{Intrinsic}
use Rattle.tree.specs.declared.stmts.Item.{Item}
use Rattle.f90_grammar.specs.Blocks as grammar
use Rattle.f90_grammar.specs.Blocks.{trees_by}
use Rattle.reading.specs.Signs.{reference_in}
use Rattle.f90_grammar.specs.Items.{ItemPhrases90, item_trees90, step_tree90}
use Rattle.f90_grammar.specs.Phrases.{Phrase90, tree_of}
use Rattle.f90_statement.specs.items.Reading.{IsListOf}
use Rattle.f90_statement.specs.declared.items.nodes.ItemList.{ItemList}
use Rattle.f90_statement.specs.items.parts.Bounds.{AreBoundsOf}
use Rattle.f90_statement.specs.declared.items.parts.bounds.Bounds.{Bounds}
use Rattle.f90_statement.specs.Views.{AreOf}
use Rattle.f90_trees.specs.Building.{held}
use Rattle.f90_blocks.specs.statement_trees.Executable.{is_named, is_call, stores_into_call, has_tree}
use Rattle.f90_blocks.specs.statement_trees.Held.{held_reference, held_items, IsHeldDone, IsHeldTreeOf}
use Rattle.f90_blocks.specs.declared.statement_trees.nodes.StatementTree.{StatementTree}
use Rattle.f90_blocks.specs.declared.statement_trees.nodes.StatementTree.TheVariants.{Simple, Test, Continue}
use Rattle.f90_blocks.specs.declared.statement_trees.statements.Deed.{Deed}
use Rattle.f90_blocks.specs.declared.statement_trees.statements.Deed.TheVariants.{Does, IsCall}

-- ---- what was read

pub record IsOf {A B : Type 0} (is : A → B → Type 0) (made : A) : Type 0 where
  pub one : B
  pub is_of : is made one

pub record AreOfSome {A B : Type 0} (is : A → B → Type 0) (made : List A) : Type 0 where
  pub all : List B
  pub are_of : AreOf is made all

pub record AreOfBounds (k : Bounds) : Type 0 where
  pub first : Phrase90
  pub last : Phrase90
  pub step : Option Phrase90
  pub are : AreBoundsOf k first last step

abbrev pub IsOfList : Option ItemList → Type 0
IsOfList (Some l) = IsOf IsListOf l
IsOfList None = Unit {0}

-- ---- trees

abbrev pub IsAlone : Deed → Option StatementTree → Type 0
IsAlone (Does (Some s)) made = made ≡ Some (Simple s)
IsAlone (Does None) made = made ≡ Some (Continue None)
IsAlone IsCall made = made ≡ None

abbrev pub IsTested : Expr → Deed → Option StatementTree → Type 0
IsTested e (Does s) made = made ≡ Some (Test e s)
IsTested e IsCall made = made ≡ None

-- the reference of a tree that is one
abbrev pub IsNamedBy : Expression → Option Ref → Type 0
IsNamedBy e (Some r) = (is_named e ≡ true) × (reference_of r ≡ reference_in e)
IsNamedBy e None = is_named e ≡ false

module _ (function : List ℕ → Option Intrinsic) where
  abbrev pub held_tree : Phrase90 → Expression
  held_tree p = held (tree_of function p)

  abbrev pub held_trees : List Phrase90 → List Expression
  held_trees ps = trees_by held_tree ps

  pub record AreBoundTrees (a b : Phrase90) (c : Option Phrase90) (r : Expr × Expr × Expr) : Type 0 where
    pub first : expression_of r.0 ≡ held_tree a
    pub last : expression_of r.1 ≡ held_tree b
    pub step : expression_of r.2 ≡ held (step_tree90 function c)

  -- a left side
  abbrev pub IsLeftOf : Phrase90 → Option Ref → Type 0
  IsLeftOf l (Some r) =
      (is_call function l ≡ false) × (reference_of r ≡ held_reference (reference_in (tree_of function l)))
  IsLeftOf l None = is_call function l ≡ true

  -- the items of a list
  abbrev pub IsListed : Option ItemList → List Item → Type 0
  IsListed (Some l) made = (is : ItemPhrases90) → IsListOf l is
      → items (map item_of made) ≡ held_items (items (item_trees90 function is))
  IsListed None made = made ≡ []

  abbrev pub IsDeedOf : grammar.Placed → Deed → Type 0
  IsDeedOf p (Does s) = IsHeldDone function p s × (stores_into_call function p.form ≡ false)
  IsDeedOf p IsCall = stores_into_call function p.form ≡ true

  -- a statement has a tree where one is returned
  abbrev pub Gives : grammar.Placed → Option StatementTree → Type 0
  Gives p (Some t) = IsHeldTreeOf function p t × (has_tree function p.form ≡ true)
  Gives p None = has_tree function p.form ≡ false
