use Rattle.std.proofs.Common.{length}
use Rattle.reductions.proofs.scalars.+is_bare.Given as goal

abbrev pub decreases-is_bare : goal.decreases-is_bare
decreases-is_bare l = length l.decls.now
