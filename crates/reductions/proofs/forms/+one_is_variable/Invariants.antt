use Rattle.std.proofs.Common.{length}
use Rattle.reductions.proofs.forms.+one_is_variable.Given as goal

abbrev pub decreases-one_is_variable : goal.decreases-one_is_variable
decreases-one_is_variable l = length l.subs.now
