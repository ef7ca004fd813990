-- Statements, as the code holds them, whose kinds and ranks suit.
use Rattle.std.specs.Prelude.{Option, None, Some, List}
use Rattle.std.specs.Option.{IsSomeAnd}
use Rattle.tree.specs.Plain as tree
use Rattle.tree.specs.Plain.{Declaration}
use Rattle.tree.specs.View.{expression_of, statement_of}
use Rattle.tree.specs.declared.ops.Kind.TheVariants.{Logical}
use Rattle.tree.specs.declared.stmts.Stmt.{Stmt}
use Rattle.meaning.specs.Typed.{declared}
use Rattle.meaning.specs.Typed90.{IsScalar}
use Rattle.meaning.specs.Extents.{IsAllocatable}
use Rattle.f90_grammar.specs.Items.{Input, Output}
use Rattle.f90_grammar.specs.Suited.{SuitsAssignment, SuitsMask, AreNumbers, SuitsItems, SuitsAllocation}
use Rattle.f90_blocks.specs.declared.statement_trees.nodes.StatementTree.{StatementTree}
use Rattle.f90_blocks.specs.declared.statement_trees.nodes.StatementTree.TheVariants.{Simple, Test, If, ElseIf, Do}

module _ (ds : List Declaration) where
  -- a statement without others in it
  abbrev pub SuitsStatement : tree.Statement → Type 0
  SuitsStatement (tree.Assignment line m r e) = SuitsAssignment ds r e
  SuitsStatement (tree.Where line m p r e) = SuitsMask ds p r × SuitsAssignment ds r e
  SuitsStatement (tree.Read line is) = SuitsItems ds Input is
  SuitsStatement (tree.Print line is) = SuitsItems ds Output is
  SuitsStatement (tree.Allocate line x es) = SuitsAllocation ds x es
  SuitsStatement (tree.Deallocate line x) = IsSomeAnd (declared ds x) (λ d. IsAllocatable d.extent)
  SuitsStatement s = Unit {0}

  -- what a logical IF does
  abbrev pub SuitsDone : Option Stmt → Type 0
  SuitsDone None = Unit {0}
  SuitsDone (Some s) = SuitsStatement (statement_of s)

  abbrev pub SuitsTree : StatementTree → Type 0
  SuitsTree (Simple s) = SuitsStatement (statement_of s)
  SuitsTree (Test e s) = IsScalar ds (expression_of e) Logical × SuitsDone s
  SuitsTree (If e) = IsScalar ds (expression_of e) Logical
  SuitsTree (ElseIf e) = IsScalar ds (expression_of e) Logical
  SuitsTree (Do x a b c) = AreNumbers ds (expression_of a) (expression_of b) (expression_of c)
  SuitsTree t = Unit {0}
