use Rattle.prepared_passes.proofs.ExpandedNests.Expandable.{prepared_nest_is_expandable}
use Rattle.prepared_passes.proofs.expansion.prepared_nest_is_expandable.Goals as goal

pub returns : goal.returns
returns c = prepared_nest_is_expandable
