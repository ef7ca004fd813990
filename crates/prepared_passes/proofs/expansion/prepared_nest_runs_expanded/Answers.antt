use Rattle.prepared_passes.proofs.ExpandedNests.After.{prepared_nest_runs_expanded}
use Rattle.prepared_passes.proofs.expansion.prepared_nest_runs_expanded.Goals as goal

pub returns : goal.returns
returns c = prepared_nest_runs_expanded
