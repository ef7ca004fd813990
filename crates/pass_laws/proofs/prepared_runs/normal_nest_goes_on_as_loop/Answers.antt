use Rattle.pass_laws.proofs.PreparedRuns.Found.{normal_nest_goes_on_as_loop}
use Rattle.pass_laws.proofs.prepared_runs.normal_nest_goes_on_as_loop.Goals as goal

pub returns : goal.returns
returns c = normal_nest_goes_on_as_loop
