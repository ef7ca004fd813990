use Rattle.prepared_passes.proofs.SplitNests.Prepared.{split_nest_is_prepared}
use Rattle.prepared_passes.proofs.splitting.split_nest_is_prepared.Goals as goal

pub returns : goal.returns
returns c = split_nest_is_prepared
