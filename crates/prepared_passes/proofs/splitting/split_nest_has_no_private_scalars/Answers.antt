use Rattle.prepared_passes.proofs.SplitNests.Private.{split_nest_has_no_private_scalars}
use Rattle.prepared_passes.proofs.splitting.split_nest_has_no_private_scalars.Goals as goal

pub returns : goal.returns
returns c = split_nest_has_no_private_scalars
