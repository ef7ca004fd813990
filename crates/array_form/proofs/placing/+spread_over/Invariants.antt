use Rattle.std.proofs.Common.{length}
use Rattle.array_form.proofs.placing.+spread_over.Given as goal

abbrev pub decreases-spread_over : goal.decreases-spread_over
decreases-spread_over l = length l.over.now
