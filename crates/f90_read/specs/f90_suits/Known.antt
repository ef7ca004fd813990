-- Statements, as the code holds them, whose names are known.
use Rattle.std.specs.Prelude.{Option, None, Some, List}
use Rattle.tree.specs.Plain as tree
use Rattle.tree.specs.Plain.{Declaration}
use Rattle.tree.specs.View.{expression_of, statement_of}
use Rattle.tree.specs.declared.stmts.Stmt.{Stmt}
use Rattle.f90_grammar.specs.Declared.{IsKnown, use90_of}
use Rattle.f90_grammar.specs.Items.{Input, Output}
use Rattle.f90_names.specs.kinds.Known.{KnowsNames, KnowsAll, KnowsReference, KnowsItems}
use Rattle.f90_blocks.specs.declared.statement_trees.nodes.StatementTree.{StatementTree}
use Rattle.f90_blocks.specs.declared.statement_trees.nodes.StatementTree.TheVariants.{Simple, Test, If, ElseIf, Do}

module _ (ds : List Declaration) where
  -- a statement without others in it, but for DO variables
  abbrev pub KnowsStatement : tree.Statement → Type 0
  KnowsStatement (tree.Assignment line m r e) = KnowsReference ds r × KnowsNames ds e
  KnowsStatement (tree.Where line m p r e) = KnowsNames ds p × KnowsReference ds r × KnowsNames ds e
  KnowsStatement (tree.Read line is) = KnowsItems ds Input is
  KnowsStatement (tree.Print line is) = KnowsItems ds Output is
  KnowsStatement (tree.Allocate line x es) = IsKnown ds (use90_of x 0) × KnowsAll ds es
  KnowsStatement (tree.Deallocate line x) = IsKnown ds (use90_of x 0)
  KnowsStatement s = Unit {0}

  -- what a logical IF does
  abbrev pub KnowsDone : Option Stmt → Type 0
  KnowsDone None = Unit {0}
  KnowsDone (Some s) = KnowsStatement (statement_of s)

  abbrev pub KnowsTree : StatementTree → Type 0
  KnowsTree (Simple s) = KnowsStatement (statement_of s)
  KnowsTree (Test e s) = KnowsNames ds (expression_of e) × KnowsDone s
  KnowsTree (If e) = KnowsNames ds (expression_of e)
  KnowsTree (ElseIf e) = KnowsNames ds (expression_of e)
  KnowsTree (Do x a b c) =
      KnowsNames ds (expression_of a) × KnowsNames ds (expression_of b) × KnowsNames ds (expression_of c)
  KnowsTree t = Unit {0}
