use Rattle.std.proofs.Common.{length}
use Rattle.scalar_rename.proofs.occurrences.+has_no_underscore.Given as goal

abbrev pub decreases-has_no_underscore : goal.decreases-has_no_underscore
decreases-has_no_underscore l = length l.text.now
