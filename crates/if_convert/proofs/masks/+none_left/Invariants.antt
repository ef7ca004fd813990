use Rattle.std.proofs.Common.{length}
use Rattle.if_convert.proofs.masks.+none_left.Given as goal

abbrev pub decreases-none_left : goal.decreases-none_left
decreases-none_left l = length l.jumps.now
