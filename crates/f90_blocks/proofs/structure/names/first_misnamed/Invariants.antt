use Rattle.std.proofs.Common.{List}
use Rattle.f90_grammar.specs.Blocks.{Placed}
use Rattle.f90_grammar.specs.Order.{Place90, title_in_text, is_misnamed}
use Rattle.f90_blocks.specs.places.forms.Places.{IsPlacedOf}
use Rattle.f90_statement.specs.Views.{AreOf}
use Rattle.f90_blocks.proofs.structure.Walks.{IsWalked, Anything}
use Rattle.f90_blocks.proofs.structure.names.first_misnamed.Given as goal

abbrev pub invariant-loop-i : goal.invariant-loop-i
invariant-loop-i l =
    (ps : List Placed) → AreOf IsPlacedOf l.text ps
    → IsWalked (λ (p : Place90). is_misnamed (title_in_text ps) p.here.form) Anything ps l.i
