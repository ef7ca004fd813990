use Rattle.std.proofs.Common.{List}
use Rattle.f90_grammar.specs.Phrases.{Phrase90}
use Rattle.f90_expressions.specs.Reading.{IsMadeOf}
use Rattle.f90_statement.specs.Contents.{test_of}
use Rattle.f90_statement.specs.Views.{AreOf}
use Rattle.f90_statement.proofs.AnyLaws.{IsLeft}
use Rattle.f90_statement.proofs.contents.Test.holds_of_any.Given as goal

abbrev pub invariant-loop-expression : goal.invariant-loop-expression
invariant-loop-expression l = (all : List Phrase90) → AreOf IsMadeOf l.expressions all → IsLeft IsMadeOf (test_of l.self) l.expressions l.expression-index all
