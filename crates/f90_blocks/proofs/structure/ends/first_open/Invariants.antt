use Rattle.std.proofs.Common.{◌+◌, ◌≤◌, List, length}
use Rattle.f90_grammar.specs.Blocks.{Placed}
use Rattle.f90_grammar.specs.Order.{Place90, stays_open90}
use Rattle.f90_blocks.specs.places.forms.Places.{IsPlacedOf}
use Rattle.f90_statement.specs.Views.{AreOf}
use Rattle.f90_blocks.specs.structure.Ends.{AreFree}
use Rattle.f90_blocks.proofs.structure.Walks.{IsWalkedBack}
use Rattle.f90_blocks.proofs.structure.ends.first_open.Given as goal

abbrev pub invariant-loop-i : goal.invariant-loop-i
invariant-loop-i l = record {
  within : l.i ≤ length l.text;
  few_ifs : l.ends.ifs + l.i ≤ length l.text;
  few_loops : l.ends.loops + l.i ≤ length l.text;
  walked : (ps : List Placed) → AreOf IsPlacedOf l.text ps
      → IsWalkedBack (λ (p : Place90). stays_open90 p.here.form p.after) (AreFree l.ends) ps l.i l.found;
}

abbrev pub decreases-loop-i : goal.decreases-loop-i
decreases-loop-i l = l.i
