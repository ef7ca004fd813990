use Rattle.std.proofs.Common.{length}
use Rattle.f90_expressions.specs.words.Symbols.{symbols_of}
use Rattle.f90_expressions.specs.words.Tokens.{words_of}
use Rattle.f90_expressions.proofs.OfWords.WordsLaws.{HasRead}
use Rattle.f90_expressions.proofs.words.lexer.words_in.Given as goal

abbrev pub invariant-wording : goal.invariant-wording
invariant-wording l = HasRead (symbols_of l.text) (words_of l.tokens) (symbols_of l.rest)

abbrev pub decreases-wording : goal.decreases-wording
decreases-wording l = length l.rest
