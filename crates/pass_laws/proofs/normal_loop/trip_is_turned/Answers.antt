use Rattle.pass_laws.proofs.NormalLoop.Trips.{downward}
use Rattle.pass_laws.proofs.normal_loop.trip_is_turned.Goals as goal

pub returns : goal.returns
returns c = downward
