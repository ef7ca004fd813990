use Rattle.translation.proofs.PlacedLoops.Placing.{placed_loops_keep_meaning}
use Rattle.translation.proofs.placed_loops.placed_loops_keep_meaning.Goals as goal

pub returns : goal.returns
returns c = placed_loops_keep_meaning
