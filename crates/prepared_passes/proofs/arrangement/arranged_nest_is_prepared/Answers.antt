use Rattle.prepared_passes.proofs.ArrangedNests.Again.{arranged_nest_is_prepared}
use Rattle.prepared_passes.proofs.arrangement.arranged_nest_is_prepared.Goals as goal

pub returns : goal.returns
returns c = arranged_nest_is_prepared
