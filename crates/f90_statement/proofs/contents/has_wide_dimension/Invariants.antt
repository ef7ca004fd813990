use Rattle.std.proofs.Common.{List}
use Rattle.f90_grammar.specs.Contents.{is_wide_dimension}
use Rattle.f90_grammar.specs.Forms as forms
use Rattle.f90_statement.specs.Views.{AreOf, IsDimensionOf}
use Rattle.f90_statement.proofs.AnyLaws.{IsLeft}
use Rattle.f90_statement.proofs.contents.has_wide_dimension.Given as goal

abbrev pub invariant-loop-dimension : goal.invariant-loop-dimension
invariant-loop-dimension l = (all : List forms.Dimension) → AreOf IsDimensionOf l.dimensions all → IsLeft IsDimensionOf (is_wide_dimension) l.dimensions l.dimension-index all
