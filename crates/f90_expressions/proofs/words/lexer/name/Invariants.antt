use Rattle.std.proofs.Common.{◌≡◌, ◌≤◌, length, take}
use Rattle.f90_grammar.specs.Words.{goes_on90}
use Rattle.f90_expressions.specs.words.Symbols.{symbols_of}
use Rattle.f90_expressions.proofs.OfWords.RunLaws.{IsReadTo}
use Rattle.f90_expressions.proofs.words.lexer.name.Given as goal

abbrev pub invariant-letters : goal.invariant-letters
invariant-letters l =
    (length l.bytes ≡ 31) × (l.len ≤ 31) × IsReadTo goes_on90 (take l.len l.bytes) (symbols_of l.text) (symbols_of l.rest)

abbrev pub decreases-letters : goal.decreases-letters
decreases-letters l = length l.rest
