use Rattle.prepared_passes.proofs.SplitNests.Standing.{split_may_stand_for}
use Rattle.prepared_passes.proofs.splitting.split_may_stand_for.Goals as goal

pub returns : goal.returns
returns c = split_may_stand_for
