use Rattle.std.proofs.Common.{◌≡◌, ◌++◌, drop}
use Rattle.f77_expressions.specs.Scanning.{scan, Out}
use Rattle.f77_expressions.specs.Symbols.{symbols_of, mode_of}
use Rattle.f77_expressions.proofs.symbols.squeeze.Given as goal

abbrev pub invariant-scanning : goal.invariant-scanning
invariant-scanning l = scan l.chars Out ≡ symbols_of l.symbols.items ++ scan (drop l.c-index l.chars) (mode_of l.mode)
