use Rattle.reduction_laws.proofs.blocks.Typing.{reduced_is_program}
use Rattle.reduction_laws.proofs.blocks.reduced_profile.Goals as goal

pub returns : goal.returns
returns c = reduced_is_program
