use Rattle.std.proofs.Common.{[], take}
use Rattle.translation.specs.Names.{AreWithMade}
use Rattle.translation.proofs.MadeNames.{names_in_blocks}
use Rattle.translation.proofs.names.made_names.Given as goal

abbrev pub invariant-loop-block : goal.invariant-loop-block
invariant-loop-block l = AreWithMade [] (names_in_blocks (take l.block-index l.blocks)) l.names.keys
