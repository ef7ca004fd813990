use Rattle.nest_order.proofs.runs.Runs.{run_is_instances}
use Rattle.nest_order.proofs.runs.run_of_nest.Goals as goal

pub returns : goal.returns
returns c = run_is_instances
