use Rattle.prepared_passes.proofs.ExpandedNests.Unexpanded.{found_nest_is_unexpanded}
use Rattle.prepared_passes.proofs.unexpanded.found_nest_is_unexpanded.Goals as goal

pub returns : goal.returns
returns c = found_nest_is_unexpanded
