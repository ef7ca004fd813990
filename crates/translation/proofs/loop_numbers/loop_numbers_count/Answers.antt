use Rattle.translation.proofs.LoopNumbers.Nests.{loop_numbers_count}
use Rattle.translation.proofs.loop_numbers.loop_numbers_count.Goals as goal

pub returns : goal.returns
returns c = loop_numbers_count
