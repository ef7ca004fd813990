use Rattle.std.proofs.Common.{length}
use Rattle.scalar_expand.proofs.texts.+texts_with.Given as goal

abbrev pub decreases-texts_with : goal.decreases-texts_with
decreases-texts_with l = length l.extents.now
