use Rattle.reduction_laws.proofs.blocks.Blocks.{reduced_block_follows}
use Rattle.reduction_laws.proofs.blocks.reduced_block.Goals as goal

pub returns : goal.returns
returns c = reduced_block_follows
