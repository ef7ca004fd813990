use Rattle.std.proofs.Common.{length}
use Rattle.linear_forms.proofs.terms.+count_used.Given as goal

abbrev pub decreases-count_used : goal.decreases-count_used
decreases-count_used l = length l.symbols.now
