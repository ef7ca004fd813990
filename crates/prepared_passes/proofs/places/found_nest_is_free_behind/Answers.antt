use Rattle.prepared_passes.proofs.ExpandedNests.FreeBehind.{found_nest_is_free_behind}
use Rattle.prepared_passes.proofs.places.found_nest_is_free_behind.Goals as goal

pub returns : goal.returns
returns c = found_nest_is_free_behind
