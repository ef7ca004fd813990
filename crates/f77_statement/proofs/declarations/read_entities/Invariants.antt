use Rattle.std.proofs.Common.{length, map}
use Rattle.f77_grammar.specs.statements.Forms.{IsEntity77, written_entity77, entity_tree, entity_depth}
use Rattle.f77_expressions.specs.Views.{words_of}
use Rattle.f77_grammar.specs.syntax.Views.{entity_of}
use Rattle.f77_statement.specs.Separated.{IsBeingRead}
use Rattle.f77_statement.proofs.declarations.read_entities.Given as goal

abbrev pub invariant-entities : goal.invariant-entities
invariant-entities l = IsBeingRead written_entity77 IsEntity77 entity_tree entity_depth (words_of l.tokens) (map entity_of l.entities) l.depth (words_of l.rest)

abbrev pub decreases-entities : goal.decreases-entities
decreases-entities l = length l.rest
