use Rattle.std.proofs.Common.{◌≡◌, false, List, map, take}
use Rattle.std.specs.List.{list_any}
use Rattle.meaning.specs.Extents.{elements_of}
use Rattle.f90_grammar.specs.Contents.{is_wide_dimension}
use Rattle.f90_grammar.specs.Forms as forms
use Rattle.f90_grammar.specs.Reading.{dimension_bounds}
use Rattle.f90_statement.specs.Views.{AreOf, IsDimensionOf}
use Rattle.meaning.specs.element_counts.Counts.{capped}
use Rattle.f90_names.proofs.kinds.declarations.bounds.product.Given as goal

abbrev pub invariant-loop-dimension : goal.invariant-loop-dimension
invariant-loop-dimension l = record {
  product : (ds : List forms.Dimension) → AreOf IsDimensionOf (take l.dimension-index l.dimensions) ds
      → list_any is_wide_dimension ds ≡ false
      → l.product ≡ capped (elements_of (map dimension_bounds ds));
}
