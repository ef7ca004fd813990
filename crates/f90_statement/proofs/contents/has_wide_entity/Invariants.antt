use Rattle.std.proofs.Common.{List}
use Rattle.f90_grammar.specs.Forms as forms
use Rattle.f90_statement.specs.Contents.{are_wide}
use Rattle.f90_statement.specs.Views.{AreOf, IsEntityOf}
use Rattle.f90_statement.proofs.AnyLaws.{IsLeft}
use Rattle.f90_statement.proofs.contents.has_wide_entity.Given as goal

abbrev pub invariant-loop-entity : goal.invariant-loop-entity
invariant-loop-entity l = (all : List forms.EntityForm90) → AreOf IsEntityOf l.entities all → IsLeft IsEntityOf (are_wide) l.entities l.entity-index all
