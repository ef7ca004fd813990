use Rattle.std.proofs.Common.{length}
use Rattle.array_form.proofs.loops_in_text.+same_loops.Given as goal

abbrev pub decreases-same_loops : goal.decreases-same_loops
decreases-same_loops l = length l.loops.now
