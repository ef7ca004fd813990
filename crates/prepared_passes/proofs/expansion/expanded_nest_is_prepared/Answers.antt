use Rattle.prepared_passes.proofs.ExpandedNests.Prepared.{expanded_nest_is_prepared}
use Rattle.prepared_passes.proofs.expansion.expanded_nest_is_prepared.Goals as goal

pub returns : goal.returns
returns c = expanded_nest_is_prepared
