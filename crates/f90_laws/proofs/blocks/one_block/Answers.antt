use Rattle.f90_laws.proofs.unrefused.UniqueBlocks.{one_block}
use Rattle.f90_laws.proofs.blocks.Bodies.{one_body}
use Rattle.f90_laws.proofs.blocks.one_block.Goals as goal

pub returns-clause-block : goal.returns-clause-block
returns-clause-block c = one_block

pub returns-clause-body : goal.returns-clause-body
returns-clause-body c = one_body
