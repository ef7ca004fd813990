use Rattle.std.proofs.Common.{length}
use Rattle.f90_grammar.specs.Forms.{written_extent}
use Rattle.f90_grammar.specs.Phrases.{IsExpression90}
use Rattle.f90_expressions.specs.Reading.{IsMadeOf}
use Rattle.f90_expressions.specs.words.Tokens.{words_of}
use Rattle.f90_statement.specs.Reading.{IsBeingRead}
use Rattle.f90_statement.proofs.parts.extents.Given as goal

abbrev pub invariant-extents : goal.invariant-extents
invariant-extents l = IsBeingRead IsMadeOf IsExpression90 written_extent (words_of l.tokens) l.extents (words_of l.rest)

abbrev pub decreases-extents : goal.decreases-extents
decreases-extents l = length l.rest
