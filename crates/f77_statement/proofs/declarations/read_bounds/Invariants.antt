use Rattle.std.proofs.Common.{length}
use Rattle.f77_expressions.specs.Views.{words_of}
use Rattle.f77_statement.specs.Declarations.{AreBoundsBeingRead}
use Rattle.f77_statement.proofs.declarations.read_bounds.Given as goal

abbrev pub invariant-bounds : goal.invariant-bounds
invariant-bounds l = AreBoundsBeingRead (words_of l.tokens) l.bounds l.depth (words_of l.rest)

abbrev pub decreases-bounds : goal.decreases-bounds
decreases-bounds l = length l.rest
