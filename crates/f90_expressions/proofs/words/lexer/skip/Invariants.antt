use Rattle.std.proofs.Common.{◌≡◌, length}
use Rattle.f90_expressions.specs.words.Lexing.{skip}
use Rattle.f90_expressions.specs.words.Symbols.{symbols_of}
use Rattle.f90_expressions.proofs.words.lexer.skip.Given as goal

abbrev pub invariant-gaps : goal.invariant-gaps
invariant-gaps l = skip (symbols_of l.text) ≡ skip (symbols_of l.rest)

abbrev pub decreases-gaps : goal.decreases-gaps
decreases-gaps l = length l.rest
