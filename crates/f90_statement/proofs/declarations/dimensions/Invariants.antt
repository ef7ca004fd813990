use Rattle.std.proofs.Common.{length}
use Rattle.f90_grammar.specs.Forms.{SuitsAllocatable, written_dimension}
use Rattle.f90_statement.specs.Views.{IsDimensionOf}
use Rattle.f90_expressions.specs.words.Tokens.{words_of}
use Rattle.f90_statement.specs.Reading.{IsBeingRead}
use Rattle.f90_statement.proofs.declarations.dimensions.Given as goal

abbrev pub invariant-dimensions : goal.invariant-dimensions
invariant-dimensions l = IsBeingRead IsDimensionOf (SuitsAllocatable l.is_allocatable) written_dimension (words_of l.tokens) l.dimensions (words_of l.rest)

abbrev pub decreases-dimensions : goal.decreases-dimensions
decreases-dimensions l = length l.rest
