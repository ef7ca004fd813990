use Rattle.prepared_passes.proofs.ExpandedNests.ApartBehind.{found_nest_is_apart_behind}
use Rattle.prepared_passes.proofs.unexpanded.found_nest_is_apart_behind.Goals as goal

pub returns : goal.returns
returns c = found_nest_is_apart_behind
