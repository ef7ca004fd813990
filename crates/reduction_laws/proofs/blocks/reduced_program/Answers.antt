use Rattle.reduction_laws.proofs.blocks.Meaning.{reduced_keeps_meaning}
use Rattle.reduction_laws.proofs.blocks.reduced_program.Goals as goal

pub returns : goal.returns
returns c = reduced_keeps_meaning
