use Rattle.translation.proofs.NestBlocks.Listed.{answers_are_listed}
use Rattle.translation.proofs.nest_blocks.answers_are_listed.Goals as goal

pub returns : goal.returns
returns c = answers_are_listed
