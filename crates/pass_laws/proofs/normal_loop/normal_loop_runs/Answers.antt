use Rattle.pass_laws.proofs.NormalLoop.NormalLoops.{normal_loop_runs}
use Rattle.pass_laws.proofs.normal_loop.normal_loop_runs.Goals as goal

pub returns : goal.returns
returns c = normal_loop_runs
