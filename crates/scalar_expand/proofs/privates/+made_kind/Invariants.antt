use Rattle.std.proofs.Common.{length}
use Rattle.scalar_expand.proofs.privates.+made_kind.Given as goal

abbrev pub decreases-made_kind : goal.decreases-made_kind
decreases-made_kind l = length l.made.now
