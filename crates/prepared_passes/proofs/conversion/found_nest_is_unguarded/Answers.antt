use Rattle.prepared_passes.proofs.ConvertedNests.Unguarded.{found_nest_is_unguarded}
use Rattle.prepared_passes.proofs.conversion.found_nest_is_unguarded.Goals as goal

pub returns : goal.returns
returns c = found_nest_is_unguarded
