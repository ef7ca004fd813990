use Rattle.std.proofs.Common.{◌≡◌, drop}
use Rattle.f90_expressions.specs.words.Lexing.{strip}
use Rattle.f90_expressions.specs.words.Symbols.{symbols_of}
use Rattle.f90_expressions.proofs.words.lexer.strip.Given as goal

abbrev pub invariant-stripping : goal.invariant-stripping
invariant-stripping l = strip l.word (symbols_of l.text) ≡ strip (drop l.c-index l.word) (symbols_of l.rest)
