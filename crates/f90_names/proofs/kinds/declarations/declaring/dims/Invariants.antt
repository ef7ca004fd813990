use Rattle.std.proofs.Common.{◌≡◌, List, map, take}
use Rattle.std.specs.List.{AllByRecursion}
use Rattle.tree.specs.View as view
use Rattle.meaning.specs.Extents.{IsDimension}
use Rattle.f90_grammar.specs.Forms as forms
use Rattle.f90_grammar.specs.Reading.{dimension_bounds}
use Rattle.f90_statement.specs.Views.{AreOf, IsDimensionOf}
use Rattle.f90_names.proofs.kinds.declarations.declaring.dims.Given as goal

abbrev pub invariant-loop-dimension : goal.invariant-loop-dimension
invariant-loop-dimension l = record {
  made : (ds : List forms.Dimension) → AreOf IsDimensionOf (take l.dimension-index l.dimensions) ds
      → AllByRecursion IsDimension (map dimension_bounds ds)
      → map view.bounds_of l.dims ≡ map dimension_bounds ds;
}
