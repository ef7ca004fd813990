use Rattle.f90_laws.proofs.blocks.Bodies.{targets_named}
use Rattle.f90_laws.proofs.blocks.targets_are_named.Goals as goal

pub returns : goal.returns
returns c = targets_named
