use Rattle.std.proofs.Common.{◌≡◌, length}
use Rattle.reading.specs.Characters.{is_digit}
use Rattle.f77_expressions.specs.Lexing.{run_of}
use Rattle.f77_expressions.specs.Literals.{IsSoFar}
use Rattle.f77_expressions.specs.Symbols.{symbols_of}
use Rattle.f77_expressions.proofs.lexer.literal.Given as goal

abbrev pub invariant-digits : goal.invariant-digits
invariant-digits l =
    IsSoFar l.value (symbols_of l.text) (symbols_of l.rest) × ((run_of is_digit (symbols_of l.text)).rest ≡ (run_of is_digit (symbols_of l.rest)).rest)

abbrev pub decreases-digits : goal.decreases-digits
decreases-digits l = length l.rest
