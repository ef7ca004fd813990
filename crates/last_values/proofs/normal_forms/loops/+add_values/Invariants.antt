use Rattle.std.proofs.Common.{length}
use Rattle.last_values.proofs.normal_forms.loops.+add_values.Given as goal

abbrev pub decreases-add_values : goal.decreases-add_values
decreases-add_values l = length l.round.now
