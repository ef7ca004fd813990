use Rattle.std.proofs.Common.{List}
use Rattle.f90_grammar.specs.Blocks.{Placed}
use Rattle.f90_grammar.specs.Order.{Place90, blocks_round, closes_wrongly}
use Rattle.f90_blocks.specs.places.forms.Places.{IsPlacedOf}
use Rattle.f90_statement.specs.Views.{AreOf}
use Rattle.f90_blocks.proofs.structure.OpenBlocks.{AreOpenBehind}
use Rattle.f90_blocks.proofs.structure.Walks.{IsWalked}
use Rattle.f90_blocks.proofs.structure.blocks.first_wrong_closer.Given as goal

abbrev pub invariant-loop-i : goal.invariant-loop-i
invariant-loop-i l =
    (ps : List Placed) → AreOf IsPlacedOf l.text ps
    → IsWalked (λ (p : Place90). closes_wrongly p.here.form (blocks_round p)) (AreOpenBehind l.blocks) ps l.i
