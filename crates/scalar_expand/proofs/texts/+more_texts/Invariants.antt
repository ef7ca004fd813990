use Rattle.std.proofs.Common.{length}
use Rattle.scalar_expand.proofs.texts.+more_texts.Given as goal

abbrev pub decreases-more_texts : goal.decreases-more_texts
decreases-more_texts l = length l.times.now
