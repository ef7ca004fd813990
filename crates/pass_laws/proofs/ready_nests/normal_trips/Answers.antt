use Rattle.pass_laws.proofs.ReadyNests.NormalTrips.{normal_trips_are_forms}
use Rattle.pass_laws.proofs.ready_nests.normal_trips.Goals as goal

pub returns : goal.returns
returns c = normal_trips_are_forms
