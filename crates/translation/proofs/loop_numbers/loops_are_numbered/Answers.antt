use Rattle.translation.proofs.LoopNumbers.Nests.{loops_are_numbered}
use Rattle.translation.proofs.loop_numbers.loops_are_numbered.Goals as goal

pub returns : goal.returns
returns c = loops_are_numbered
