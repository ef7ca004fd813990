use Rattle.std.proofs.Common.{◌≡◌, false, List, take}
use Rattle.std.specs.List.{list_any}
use Rattle.f90_grammar.specs.Forms as forms
use Rattle.f90_statement.specs.Views.{AreOf, IsEntityOf}
use Rattle.f90_names.specs.kinds.declarations.Bounds.{are_wide, elements_in}
use Rattle.meaning.specs.element_counts.Counts.{capped}
use Rattle.f90_names.proofs.kinds.declarations.limits.elements_of.Given as goal

abbrev pub invariant-loop-entity : goal.invariant-loop-entity
invariant-loop-entity l = record {
  counted : (es : List forms.EntityForm90) → AreOf IsEntityOf (take l.entity-index l.entities) es
      → list_any are_wide es ≡ false → l.count ≡ capped (elements_in es);
}
