-- What is told of an expression, and made from it.
use Rattle.std.specs.Prelude.{◌≡◌, ◌↔◌, Bool, true, false, IsTrue, Result, Ok, Err}
use Rattle.tree.specs.declared.exprs.Expr.{Expr}
use Rattle.tree.specs.declared.lists.Memory.{Memory}
use Rattle.tree.specs.View.{expression_of}
use Rattle.f90_grammar.specs.Contents.{VariableSuitsCalls}
use Rattle.f90_grammar.specs.Phrases.{Phrase90, SuitsCalls, tree_of}
use Rattle.f90_expressions.specs.Flat as flats
use Rattle.f90_expressions.specs.Flat.{Node}
use Rattle.f90_expressions.specs.Reading.{IsMadeOf}
use Rattle.f90_expressions.specs.declared.nodes.Expression.{Expression}
use Rattle.f90_trees.specs.Building.{held}
use Rattle.f90_trees.specs.Hiding.{function_in}
use Rattle.f90_trees.specs.declared.functions.Functions.{Functions}

-- it was read as an expression
pub record IsOfPhrase (e : Expression) : Type 0 where
  pub phrase : Phrase90
  pub is : IsMadeOf e phrase

-- a name with a list ends there
abbrev pub is_list : Node → Bool
is_list (flats.Listed x) = true
is_list n = false

-- unless memory ran out
abbrev pub TellsCallsOf : Result Bool Memory → Functions → Phrase90 → Type 0
TellsCallsOf (Ok b) functions p = IsTrue b ↔ SuitsCalls (function_in functions) p
TellsCallsOf (Err e) functions p = Unit {0}

abbrev pub TellsCallsIn : Result Bool Memory → Functions → Phrase90 → Type 0
TellsCallsIn (Ok b) functions p = IsTrue b ↔ VariableSuitsCalls (function_in functions) p
TellsCallsIn (Err e) functions p = Unit {0}

abbrev pub IsTreeOf : Result Expr Memory → Functions → Phrase90 → Type 0
IsTreeOf (Ok e) functions p = expression_of e ≡ held (tree_of (function_in functions) p)
IsTreeOf (Err e) functions p = Unit {0}
