use Rattle.std.proofs.Common.{◌≡◌, ◌≤◌, length, take}
use Rattle.f77_expressions.specs.Symbols.{symbols_of}
use Rattle.f77_expressions.proofs.NameLaws.{IsReadTo}
use Rattle.f77_expressions.proofs.lexer.name.Given as goal

abbrev pub invariant-letters : goal.invariant-letters
invariant-letters l = (length l.bytes ≡ 6) × (l.len ≤ 6) × IsReadTo (take l.len l.bytes) (symbols_of l.text) (symbols_of l.rest)

abbrev pub decreases-letters : goal.decreases-letters
decreases-letters l = length l.rest
