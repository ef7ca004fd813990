use Rattle.std.proofs.Common.{length}
use Rattle.scalar_expand.proofs.texts.+more_symbols.Given as goal

abbrev pub decreases-more_symbols : goal.decreases-more_symbols
decreases-more_symbols l = length l.terms.now
