use Rattle.interchange_laws.proofs.runs.Countable.{run_trips_are_countable}
use Rattle.interchange_laws.proofs.runs.Counted.{moved_trips_are_counted}
use Rattle.interchange_laws.proofs.runs.counted_trips.Goals as goal

pub returns-clause-moved : goal.returns-clause-moved
returns-clause-moved c = moved_trips_are_counted

pub returns-clause-run : goal.returns-clause-run
returns-clause-run c = run_trips_are_countable
