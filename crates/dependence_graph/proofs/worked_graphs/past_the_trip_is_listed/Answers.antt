use Rattle.dependence_graph.proofs.worked_graphs.Worked.{past_the_trip_listed}
use Rattle.dependence_graph.proofs.worked_graphs.past_the_trip_is_listed.Goals as goal

pub returns : goal.returns
returns c = past_the_trip_listed
