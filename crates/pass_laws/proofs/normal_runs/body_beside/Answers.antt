use Rattle.pass_laws.proofs.NormalRuns.Body.{body_beside}
use Rattle.pass_laws.proofs.normal_runs.body_beside.Goals as goal

pub returns : goal.returns
returns c = body_beside
