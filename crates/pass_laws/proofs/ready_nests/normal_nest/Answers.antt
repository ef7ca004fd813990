use Rattle.pass_laws.proofs.ReadyNests.NormalReady.{normal_nest_is_ready}
use Rattle.pass_laws.proofs.ready_nests.normal_nest.Goals as goal

pub returns : goal.returns
returns c = normal_nest_is_ready
