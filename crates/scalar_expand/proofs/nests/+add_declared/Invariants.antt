use Rattle.std.proofs.Common.{length}
use Rattle.scalar_expand.proofs.nests.+add_declared.Given as goal

abbrev pub decreases-add_declared : goal.decreases-add_declared
decreases-add_declared l = length l.decls.now
