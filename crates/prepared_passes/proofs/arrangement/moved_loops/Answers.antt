use Rattle.prepared_passes.proofs.ArrangedNests.Law.{moved_loops_keep_meaning}
use Rattle.prepared_passes.proofs.arrangement.moved_loops.Goals as goal

pub returns : goal.returns
returns c = moved_loops_keep_meaning
