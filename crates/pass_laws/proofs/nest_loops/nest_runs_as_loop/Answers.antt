use Rattle.pass_laws.proofs.NestLoops.FoundRuns.{found_nest_runs}
use Rattle.pass_laws.proofs.nest_loops.nest_runs_as_loop.Goals as goal

pub returns : goal.returns
returns c = found_nest_runs
