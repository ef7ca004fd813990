use Rattle.std.proofs.Common.{length}
use Rattle.index_split.proofs.points.+have_same_symbols.Given as goal

abbrev pub decreases-have_same_symbols : goal.decreases-have_same_symbols
decreases-have_same_symbols l = length l.first.now
