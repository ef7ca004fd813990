use Rattle.pass_laws.proofs.PreparedRuns.Instances.{run_of_prepared_nest}
use Rattle.pass_laws.proofs.prepared_runs.run_of_prepared_nest.Goals as goal

pub returns : goal.returns
returns c = run_of_prepared_nest
