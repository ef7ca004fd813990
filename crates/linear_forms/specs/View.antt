-- Texts of the program as plain ones.
use Rattle.std.specs.Prelude.{Option}
use Rattle.std.specs.Option.{option_map}
use Rattle.tree.specs.Plain.{Expression}
use Rattle.tree.specs.View.{expression_of}
use Rattle.tree.specs.declared.exprs.Expr.{Expr}

-- what stands so far, if anything does
abbrev pub text_so_far : Option Expr → Option Expression
text_so_far o = option_map expression_of o
