-- Statements as plain statements.
use Rattle.std.specs.Prelude.{ℕ, List, map}
use Rattle.tree.specs.Plain.{Expression, items}
use Rattle.tree.specs.View.{expression_of, reference_of, item_of}
use Rattle.tree.specs.declared.exprs.Expr.{Expr}
use Rattle.f77_grammar.specs.declared.syntax.statements.Entity.{Entity as Entity'}
use Rattle.f77_grammar.specs.declared.syntax.statements.Stmt77.{Stmt77, fold-Stmt77}
use Rattle.f77_grammar.specs.declared.syntax.statements.Stmt77.TheOpen.{Stmt77-F, Program as Program'}
use Rattle.f77_grammar.specs.declared.syntax.statements.Stmt77.TheOpen.{ImplicitNone as ImplicitNone'}
use Rattle.f77_grammar.specs.declared.syntax.statements.Stmt77.TheOpen.{Declare as Declare', Dimension as Dimension'}
use Rattle.f77_grammar.specs.declared.syntax.statements.Stmt77.TheOpen.{Constants as Constants'}
use Rattle.f77_grammar.specs.declared.syntax.statements.Stmt77.TheOpen.{Assign as Assign', Go as Go', Test as Test'}
use Rattle.f77_grammar.specs.declared.syntax.statements.Stmt77.TheOpen.{If as If', ElseIf as ElseIf', Else as Else'}
use Rattle.f77_grammar.specs.declared.syntax.statements.Stmt77.TheOpen.{EndIf as EndIf', Do as Do', EndDo as EndDo'}
use Rattle.f77_grammar.specs.declared.syntax.statements.Stmt77.TheOpen.{Continue as Continue', Stop as Stop'}
use Rattle.f77_grammar.specs.declared.syntax.statements.Stmt77.TheOpen.{Read as Read', Print as Print', End as End'}
use Rattle.f77_grammar.specs.declared.syntax.statements.Labelled.{Labelled as Labelled'}
use Rattle.f77_grammar.specs.Statement77.{Entity, NamedConstant, Labelled, Statement77, Program, ImplicitNone, Declare}
use Rattle.f77_grammar.specs.Statement77.{Dimension, Constants, Assign, Go, Test, If, ElseIf, Else, EndIf, Do, EndDo}
use Rattle.f77_grammar.specs.Statement77.{Continue, Stop, Read, Print, End}

abbrev pub bounds_of : Expr × Expr → Expression × Expression
bounds_of b = (expression_of b.0, expression_of b.1)

abbrev pub entity_of : Entity' → Entity
entity_of e = record { name = e.name; bounds = map bounds_of e.dims }

abbrev pub constant_of : List ℕ × Expr → NamedConstant
constant_of d = record { name = d.0; value = expression_of d.1 }

-- one layer of a statement, over the plain statement in a logical IF
abbrev pub stmt_step : Stmt77-F Statement77 → Statement77
stmt_step (Program' x) = Program x
stmt_step ImplicitNone' = ImplicitNone
stmt_step (Declare' k es) = Declare k (map entity_of es)
stmt_step (Dimension' es) = Dimension (map entity_of es)
stmt_step (Constants' ds) = Constants (map constant_of ds)
stmt_step (Assign' left e) = Assign (reference_of left) (expression_of e)
stmt_step (Go' n) = Go n
stmt_step (Test' c s) = Test (expression_of c) s.value
stmt_step (If' c) = If (expression_of c)
stmt_step (ElseIf' c) = ElseIf (expression_of c)
stmt_step Else' = Else
stmt_step EndIf' = EndIf
stmt_step (Do' label x a b c) = Do label x (expression_of a) (expression_of b) (expression_of c)
stmt_step EndDo' = EndDo
stmt_step Continue' = Continue
stmt_step Stop' = Stop
stmt_step (Read' is) = Read (items (map item_of is))
stmt_step (Print' is) = Print (items (map item_of is))
stmt_step End' = End

unfoldable pub statement_of : Stmt77 → Statement77
statement_of = fold-Stmt77 Statement77 stmt_step

abbrev pub labelled_of : Labelled' → Labelled
labelled_of x = record { label = x.label; line = x.line; statement = statement_of x.statement }

-- the statements of a program
abbrev pub text_of : List Labelled' → List Labelled
text_of xs = map labelled_of xs
