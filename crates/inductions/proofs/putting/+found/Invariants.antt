use Rattle.std.proofs.Common.{length}
use Rattle.inductions.proofs.putting.+found.Given as goal

abbrev pub decreases-found : goal.decreases-found
decreases-found l = length l.inductions.now
