use Rattle.std.proofs.Common.{length}
use Rattle.scalar_expand.proofs.privates.+private_among.Given as goal

abbrev pub decreases-private_among : goal.decreases-private_among
decreases-private_among l = length l.standings.now
