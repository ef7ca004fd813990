use Rattle.std.proofs.Common.{List}
use Rattle.f90_grammar.specs.Blocks.{Placed}
use Rattle.f90_grammar.specs.Order.{Place90}
use Rattle.f90_blocks.specs.places.forms.Places.{IsPlacedOf}
use Rattle.f90_statement.specs.Views.{AreOf}
use Rattle.f90_grammar.specs.Surroundings.{label_digits_in, is_wrong_label90}
use Rattle.f90_blocks.specs.structure.Labels.{AreLabels}
use Rattle.f90_blocks.proofs.structure.Walks.{IsWalked}
use Rattle.f90_blocks.proofs.structure.labels.first_wrong_label.Given as goal

abbrev pub invariant-loop-i : goal.invariant-loop-i
invariant-loop-i l =
    (ps : List Placed) → AreOf IsPlacedOf l.text ps
    → IsWalked (λ (p : Place90). is_wrong_label90 p.before (label_digits_in p.here.form)) (AreLabels l.labels) ps l.i
