use Rattle.std.proofs.Common.{length}
use Rattle.f77_expressions.specs.Symbols.{symbols_of}
use Rattle.f77_words.proofs.keywords.WordLaws.{IsInnerOf}
use Rattle.f77_words.proofs.keywords.words_left_out.word_left_out.Given as goal

abbrev pub invariant-inner : goal.invariant-inner
invariant-inner l = IsInnerOf (symbols_of l.text) (symbols_of l.rest)

abbrev pub decreases-inner : goal.decreases-inner
decreases-inner l = length l.rest
