use Rattle.prepared_passes.proofs.ExpandedNests.Allowed.{prepared_nest_may_be_expanded}
use Rattle.prepared_passes.proofs.expansion.prepared_nest_may_be_expanded.Goals as goal

pub returns : goal.returns
returns c = prepared_nest_may_be_expanded
