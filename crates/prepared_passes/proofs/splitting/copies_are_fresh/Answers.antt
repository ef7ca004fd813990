use Rattle.prepared_passes.proofs.SplitNests.Fresh.{copies_are_fresh}
use Rattle.prepared_passes.proofs.splitting.copies_are_fresh.Goals as goal

pub returns : goal.returns
returns c = copies_are_fresh
