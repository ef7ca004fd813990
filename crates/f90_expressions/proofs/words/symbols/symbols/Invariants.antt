use Rattle.std.proofs.Common.{◌≡◌, drop}
use Rattle.f90_expressions.specs.words.Scanning.{scan, Out, with_front}
use Rattle.f90_expressions.specs.words.Symbols.{symbols_of, mode_of}
use Rattle.f90_expressions.proofs.words.symbols.symbols.Given as goal

abbrev pub invariant-scanning : goal.invariant-scanning
invariant-scanning l =
    scan l.chars Out ≡ with_front (symbols_of l.symbols.items) (scan (drop l.c-index l.chars) (mode_of l.mode))
