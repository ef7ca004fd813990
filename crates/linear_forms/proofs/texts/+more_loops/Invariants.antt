use Rattle.std.proofs.Common.{length}
use Rattle.linear_forms.proofs.texts.+more_loops.Given as goal

abbrev pub decreases-more_loops : goal.decreases-more_loops
decreases-more_loops l = length l.times.now
