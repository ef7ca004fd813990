use Rattle.reduction_laws.proofs.unread.Replaced.{replaced_loop_follows}
use Rattle.reduction_laws.proofs.unread.replaced_loop.Goals as goal

pub returns : goal.returns
returns c = replaced_loop_follows
