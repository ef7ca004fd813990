use Rattle.std.proofs.Common.{List, map, take}
use Rattle.std.specs.List.{AllByRecursion}
use Rattle.meaning.specs.Extents.{IsDimension}
use Rattle.f90_grammar.specs.Forms as forms
use Rattle.f90_statement.specs.Views.{AreOf, IsEntityOf}
use Rattle.f90_names.specs.kinds.declarations.Bounds.{given_bounds}
use Rattle.f90_names.proofs.kinds.declarations.limits.have_bounds.Given as goal

abbrev pub invariant-loop-entity : goal.invariant-loop-entity
invariant-loop-entity l = record {
  within : (es : List forms.EntityForm90) → AreOf IsEntityOf (take l.entity-index l.entities) es
      → AllByRecursion (AllByRecursion IsDimension) (map given_bounds es);
}
