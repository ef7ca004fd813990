use Rattle.std.proofs.Common.{length}
use Rattle.index_split.proofs.pieces.+add_bounds.Given as goal

abbrev pub decreases-add_bounds : goal.decreases-add_bounds
decreases-add_bounds l = length l.ends.now
