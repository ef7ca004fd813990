use Rattle.std.proofs.Common.{length}
use Rattle.reading.specs.Characters.{is_digit}
use Rattle.f90_expressions.specs.words.Symbols.{symbols_of}
use Rattle.f90_expressions.proofs.OfWords.RunLaws.{IsReadTo}
use Rattle.f90_expressions.proofs.words.lexer.digits.Given as goal

abbrev pub invariant-digits : goal.invariant-digits
invariant-digits l = IsReadTo is_digit l.digits (symbols_of l.text) (symbols_of l.rest)

abbrev pub decreases-digits : goal.decreases-digits
decreases-digits l = length l.rest
