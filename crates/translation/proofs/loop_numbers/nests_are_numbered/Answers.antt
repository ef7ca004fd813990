use Rattle.translation.proofs.LoopNumbers.Nests.{nests_are_numbered}
use Rattle.translation.proofs.loop_numbers.nests_are_numbered.Goals as goal

pub returns : goal.returns
returns c = nests_are_numbered
