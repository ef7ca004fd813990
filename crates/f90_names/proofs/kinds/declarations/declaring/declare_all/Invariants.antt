use Rattle.std.proofs.Common.{◌≡◌, ◌++◌, List, map, take}
use Rattle.std.specs.List.{AllByRecursion}
use Rattle.tree.specs.View.{declaration_of}
use Rattle.f90_grammar.specs.Bounds.{HasBounds}
use Rattle.f90_grammar.specs.Forms as forms
use Rattle.f90_grammar.specs.Reading.{entity_declaration}
use Rattle.f90_statement.specs.Views.{AreOf, IsEntityOf}
use Rattle.f90_names.proofs.kinds.declarations.declaring.declare_all.Given as goal

abbrev pub invariant-loop-entity : goal.invariant-loop-entity
invariant-loop-entity l = record {
  made : (es : List forms.EntityForm90) → AreOf IsEntityOf (take l.entity-index l.entities) es
      → AllByRecursion HasBounds (map (entity_declaration l.kind l.is_allocatable) es)
      → map declaration_of l.all ≡ map declaration_of l.initial.all ++ map
      (entity_declaration l.kind l.is_allocatable) es;
}
