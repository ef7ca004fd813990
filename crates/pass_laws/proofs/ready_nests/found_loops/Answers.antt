use Rattle.pass_laws.proofs.ReadyNests.FoundNumbers.{found_loops_are_distinct}
use Rattle.pass_laws.proofs.ready_nests.found_loops.Goals as goal

pub returns : goal.returns
returns c = found_loops_are_distinct
