use Rattle.std.proofs.Common.{length}
use Rattle.array_form.proofs.holds.boxes.+ends_over.Given as goal

abbrev pub decreases-ends_over : goal.decreases-ends_over
decreases-ends_over l = length l.loops.now
