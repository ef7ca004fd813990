use Rattle.std.proofs.Common.{List}
use Rattle.f90_grammar.specs.Blocks.{Placed}
use Rattle.f90_grammar.specs.Order.{Place90, is_late90}
use Rattle.f90_blocks.specs.places.forms.Places.{IsPlacedOf}
use Rattle.f90_statement.specs.Views.{AreOf}
use Rattle.f90_blocks.specs.structure.Order.{IsPassed}
use Rattle.f90_blocks.proofs.structure.Walks.{IsWalked}
use Rattle.f90_blocks.proofs.structure.order.first_late.Given as goal

abbrev pub invariant-loop-i : goal.invariant-loop-i
invariant-loop-i l =
    (ps : List Placed) → AreOf IsPlacedOf l.text ps
    → IsWalked (λ (p : Place90). is_late90 p.here.form p.before) (IsPassed l.passed) ps l.i
