use Rattle.std.proofs.Common.{length}
use Rattle.machine.proofs.final_store.+write_more.Given as goal

abbrev pub decreases-write_more : goal.decreases-write_more
decreases-write_more g l = length l.dims.now
