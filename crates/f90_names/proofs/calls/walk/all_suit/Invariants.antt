use Rattle.std.proofs.Common.{List}
use Rattle.f90_grammar.specs.Phrases.{Phrase90, SuitsCalls}
use Rattle.f90_expressions.specs.Reading.{IsMadeOf}
use Rattle.f90_statement.specs.Views.{AreOf}
use Rattle.f90_trees.specs.Hiding.{function_in}
use Rattle.f90_names.proofs.calls.CallLaws.{IsLeft}
use Rattle.f90_names.proofs.calls.walk.all_suit.Given as goal

abbrev pub invariant-loop-expression : goal.invariant-loop-expression
invariant-loop-expression l =
    (all : List Phrase90) → AreOf IsMadeOf l.expressions all
    → IsLeft IsMadeOf (SuitsCalls (function_in l.functions)) l.expressions l.expression-index all
