use Rattle.std.proofs.Common.{length}
use Rattle.f77_expressions.specs.Symbols.{symbols_of}
use Rattle.f77_expressions.specs.Views.{words_of}
use Rattle.f77_expressions.proofs.WordsLaws.{HasRead}
use Rattle.f77_expressions.proofs.lexer.words.Given as goal

abbrev pub invariant-wording : goal.invariant-wording
invariant-wording l = HasRead (symbols_of l.text) (words_of l.tokens.items) (symbols_of l.rest)

abbrev pub decreases-wording : goal.decreases-wording
decreases-wording l = length l.rest
