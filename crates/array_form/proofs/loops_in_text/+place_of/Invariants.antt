use Rattle.std.proofs.Common.{length}
use Rattle.array_form.proofs.loops_in_text.+place_of.Given as goal

abbrev pub decreases-place_of : goal.decreases-place_of
decreases-place_of l = length l.loops.now
