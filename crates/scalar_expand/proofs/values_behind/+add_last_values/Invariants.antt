use Rattle.std.proofs.Common.{length}
use Rattle.scalar_expand.proofs.values_behind.+add_last_values.Given as goal

abbrev pub decreases-add_last_values : goal.decreases-add_last_values
decreases-add_last_values l = length l.privates.now
