use Rattle.std.proofs.Common.{List}
use Rattle.f90_grammar.specs.Blocks.{Placed}
use Rattle.f90_grammar.specs.Order.{Place90, ends_wrongly}
use Rattle.f90_blocks.specs.places.forms.Places.{IsPlacedOf}
use Rattle.f90_statement.specs.Views.{AreOf}
use Rattle.f90_blocks.proofs.structure.Walks.{IsWalked, Anything}
use Rattle.f90_blocks.proofs.structure.order.first_wrong_end.Given as goal

abbrev pub invariant-loop-i : goal.invariant-loop-i
invariant-loop-i l =
    (ps : List Placed) → AreOf IsPlacedOf l.text ps
    → IsWalked (λ (p : Place90). ends_wrongly p.here.form p.after) Anything ps l.i
