use Rattle.translation.proofs.NestBlocks.Blocks.{answers_are_blocks}
use Rattle.translation.proofs.nest_blocks.answers_are_blocks.Goals as goal

pub returns : goal.returns
returns c = answers_are_blocks
