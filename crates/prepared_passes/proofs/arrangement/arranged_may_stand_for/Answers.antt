use Rattle.prepared_passes.proofs.ArrangedNests.MayStand.{arranged_may_stand_for}
use Rattle.prepared_passes.proofs.arrangement.arranged_may_stand_for.Goals as goal

pub returns : goal.returns
returns c = arranged_may_stand_for
