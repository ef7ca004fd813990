use Rattle.std.proofs.Common.{◌≡◌, List, map}
use Rattle.tree.specs.View.{expression_of}
use Rattle.f90_grammar.specs.Phrases.{Phrase90}
use Rattle.f90_expressions.specs.Reading.{IsMadeOf}
use Rattle.f90_statement.specs.Views.{AreOf}
use Rattle.f90_trees.specs.Hiding.{function_in}
use Rattle.f90_blocks.specs.statement_trees.Results.{held_trees}
use Rattle.f90_blocks.proofs.StatementTrees.LoopLaws.{IsUpTo}
use Rattle.f90_blocks.proofs.statement_trees.expressions.trees.Given as goal

abbrev pub invariant-making : goal.invariant-making
invariant-making l = (all : List Phrase90) → AreOf IsMadeOf l.expressions all
    → IsUpTo IsMadeOf (λ (done : List Phrase90). map expression_of l.made
    ≡ held_trees (function_in l.functions) done) l.expressions l.expression-index all
