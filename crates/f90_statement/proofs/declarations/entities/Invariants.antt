use Rattle.std.proofs.Common.{length}
use Rattle.f90_grammar.specs.Forms.{IsEntity90, written_entity90}
use Rattle.f90_statement.specs.Views.{IsEntityOf}
use Rattle.f90_expressions.specs.words.Tokens.{words_of}
use Rattle.f90_statement.specs.Reading.{IsBeingRead}
use Rattle.f90_statement.proofs.declarations.entities.Given as goal

abbrev pub invariant-entities : goal.invariant-entities
invariant-entities l = IsBeingRead IsEntityOf (IsEntity90 l.is_allocatable) written_entity90 (words_of l.tokens) l.entities (words_of l.rest)

abbrev pub decreases-entities : goal.decreases-entities
decreases-entities l = length l.rest
