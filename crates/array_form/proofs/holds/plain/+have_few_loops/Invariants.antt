use Rattle.std.proofs.Common.{length}
use Rattle.array_form.proofs.holds.plain.+have_few_loops.Given as goal

abbrev pub decreases-have_few_loops : goal.decreases-have_few_loops
decreases-have_few_loops l = length l.all.now
