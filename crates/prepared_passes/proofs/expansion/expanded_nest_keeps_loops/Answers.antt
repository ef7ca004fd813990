use Rattle.prepared_passes.proofs.ExpandedNests.Kept.{expanded_nest_keeps_loops}
use Rattle.prepared_passes.proofs.expansion.expanded_nest_keeps_loops.Goals as goal

pub returns : goal.returns
returns c = expanded_nest_keeps_loops
