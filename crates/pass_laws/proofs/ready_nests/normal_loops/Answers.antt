use Rattle.pass_laws.proofs.ReadyNests.NormalNumbers.{normal_loops_are_those}
use Rattle.pass_laws.proofs.ready_nests.normal_loops.Goals as goal

pub returns : goal.returns
returns c = normal_loops_are_those
