use Rattle.scalar_expand.proofs.Trips.{trips_end}
use Rattle.scalar_expand.proofs.laws.trips_end.Goals as goal

pub returns : goal.returns
returns c = trips_end
