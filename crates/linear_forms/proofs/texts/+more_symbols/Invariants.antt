use Rattle.std.proofs.Common.{length}
use Rattle.linear_forms.proofs.texts.+more_symbols.Given as goal

abbrev pub decreases-more_symbols : goal.decreases-more_symbols
decreases-more_symbols l = length l.terms.now
