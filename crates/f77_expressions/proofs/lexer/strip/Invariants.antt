use Rattle.std.proofs.Common.{◌≡◌, drop}
use Rattle.f77_expressions.specs.Lexing.{strip}
use Rattle.f77_expressions.specs.Symbols.{symbols_of}
use Rattle.f77_expressions.proofs.lexer.strip.Given as goal

abbrev pub invariant-stripping : goal.invariant-stripping
invariant-stripping l = strip l.word (symbols_of l.text) ≡ strip (drop l.c-index l.word) (symbols_of l.rest)
