use Rattle.std.proofs.Common.{length}
use Rattle.last_values.proofs.normal_forms.last.+add_trips.Given as goal

abbrev pub decreases-add_trips : goal.decreases-add_trips
decreases-add_trips l = length l.round.now
