use Rattle.std.proofs.Common.{length}
use Rattle.scalar_expand.proofs.made.+add_now.Given as goal

abbrev pub decreases-add_now : goal.decreases-add_now
decreases-add_now l = length l.privates.now
