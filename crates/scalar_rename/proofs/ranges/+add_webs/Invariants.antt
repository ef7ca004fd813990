use Rattle.std.proofs.Common.{length}
use Rattle.scalar_rename.proofs.ranges.+add_webs.Given as goal

abbrev pub decreases-add_webs : goal.decreases-add_webs
decreases-add_webs l = length l.decls.now
