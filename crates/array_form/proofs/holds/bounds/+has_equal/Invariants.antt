use Rattle.std.proofs.Common.{length}
use Rattle.array_form.proofs.holds.bounds.+has_equal.Given as goal

abbrev pub decreases-has_equal : goal.decreases-has_equal
decreases-has_equal l = length l.subs.now
