use Rattle.std.proofs.Common.{length, map}
use Rattle.f77_grammar.specs.statements.Forms.{IsDefinition, written_definition, definition_tree, definition_depth}
use Rattle.f77_expressions.specs.Views.{words_of}
use Rattle.f77_grammar.specs.syntax.Views.{constant_of}
use Rattle.f77_statement.specs.Separated.{IsBeingRead}
use Rattle.f77_statement.proofs.declarations.read_definitions.Given as goal

abbrev pub invariant-definitions : goal.invariant-definitions
invariant-definitions l = IsBeingRead written_definition IsDefinition definition_tree definition_depth (words_of l.tokens) (map constant_of l.definitions) l.depth (words_of l.rest)

abbrev pub decreases-definitions : goal.decreases-definitions
decreases-definitions l = length l.rest
