-- What the printer is given, as the definitions of printing take it.
use Rattle.std.specs.Prelude.{ℕ, List, Option, Some, None}
use Rattle.tree.specs.declared.exprs.Expr.{Expr}
use Rattle.tree.specs.declared.programs.Line.{Line}
use Rattle.tree.specs.Plain.{Expression}
use Rattle.tree.specs.View.{expression_of}

abbrev pub line_text : Line → List ℕ
line_text l = l.text

abbrev pub guard_of : Option Expr → Option Expression
guard_of None = None
guard_of (Some e) = Some (expression_of e)
