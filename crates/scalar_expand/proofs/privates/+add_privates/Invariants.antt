use Rattle.std.proofs.Common.{length}
use Rattle.scalar_expand.proofs.privates.+add_privates.Given as goal

abbrev pub decreases-add_privates : goal.decreases-add_privates
decreases-add_privates l = length l.names.now
