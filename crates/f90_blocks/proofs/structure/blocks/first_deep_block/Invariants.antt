use Rattle.std.proofs.Common.{List, ◌&&◌, nat_le, length}
use Rattle.tree.specs.Limits as limits
use Rattle.f90_grammar.specs.Blocks.{Placed}
use Rattle.f90_grammar.specs.Order.{Place90, blocks_round}
use Rattle.f90_blocks.specs.places.forms.Places.{IsPlacedOf}
use Rattle.f90_statement.specs.Views.{AreOf}
use Rattle.f90_grammar.specs.Bounds.{opens_block90}
use Rattle.f90_blocks.proofs.structure.OpenBlocks.{AreOpenBehind}
use Rattle.f90_blocks.proofs.structure.Walks.{IsWalked}
use Rattle.f90_blocks.proofs.structure.blocks.first_deep_block.Given as goal

abbrev pub invariant-loop-i : goal.invariant-loop-i
invariant-loop-i l =
    (ps : List Placed) → AreOf IsPlacedOf l.text ps
    → IsWalked
    (λ (p : Place90). opens_block90 p.here.form && nat_le limits.block_depth90 (length (blocks_round p)))
    (AreOpenBehind l.blocks) ps l.i
