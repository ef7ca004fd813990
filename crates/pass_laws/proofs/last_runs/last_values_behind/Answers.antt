use Rattle.pass_laws.proofs.LastRuns.LastValues.{last_values_behind}
use Rattle.pass_laws.proofs.last_runs.last_values_behind.Goals as goal

pub returns : goal.returns
returns c = last_values_behind
