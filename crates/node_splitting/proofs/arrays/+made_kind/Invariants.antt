use Rattle.std.proofs.Common.{length}
use Rattle.node_splitting.proofs.arrays.+made_kind.Given as goal

abbrev pub decreases-made_kind : goal.decreases-made_kind
decreases-made_kind l = length l.made.now
