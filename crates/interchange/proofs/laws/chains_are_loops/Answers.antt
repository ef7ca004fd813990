use Rattle.interchange.proofs.ChainParts.{chains_are_loops}
use Rattle.interchange.proofs.laws.chains_are_loops.Goals as goal

pub returns : goal.returns
returns c = chains_are_loops
