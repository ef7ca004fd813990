use Rattle.std.proofs.Common.{length}
use Rattle.array_form.proofs.holds.noted.+sized_as_declared.Given as goal

abbrev pub decreases-sized_as_declared : goal.decreases-sized_as_declared
decreases-sized_as_declared l = length l.decls.now
