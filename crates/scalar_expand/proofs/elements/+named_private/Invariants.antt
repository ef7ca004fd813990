use Rattle.std.proofs.Common.{length}
use Rattle.scalar_expand.proofs.elements.+named_private.Given as goal

abbrev pub decreases-named_private : goal.decreases-named_private
decreases-named_private l = length l.privates.now
