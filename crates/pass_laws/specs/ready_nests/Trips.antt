-- The loops round the statements of what is made of a nest.
use Rattle.std.specs.Prelude.{◌≡◌, ◌≤◌, Some, All, length}
use Rattle.nest.specs.Plain.{Nest}
use Rattle.nest.specs.Bodies.{Standing, nest_statements}
use Rattle.dependence_graph.specs.nest_graph.Ready.{HaveTrips}
use Rattle.normal_loops.specs.Normalised.{normalised}

-- seven loops at most, whose trips are forms over the loops round them
pub record IsInTrips (s : Standing) : Type 0 where
  pub depth : length s.loops ≤ 7
  pub trips : HaveTrips 0 s.loops

abbrev pub NormalTripsAreForms : Type 0
NormalTripsAreForms = (n m : Nest) → normalised n ≡ Some m → All IsInTrips (nest_statements m)
