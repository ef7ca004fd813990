use Rattle.std.proofs.Common.{length, ◌+◌}
use Rattle.linear_forms.proofs.terms.+with_both.Given as goal

abbrev pub decreases-with_both : goal.decreases-with_both
decreases-with_both l = length l.terms.now + length l.others.now
