use Rattle.std.proofs.Common.{◌≤◌, length}
use Rattle.f77_expressions.specs.Symbols.{symbols_of}
use Rattle.f77_words.proofs.keywords.FrontLaws.{IsNumberTo}
use Rattle.f77_words.proofs.keywords.fronts.label.Given as goal

abbrev pub invariant-digits : goal.invariant-digits
invariant-digits l = (l.digits ≤ 5) × IsNumberTo (symbols_of l.text) (symbols_of l.rest) l.digits l.number

abbrev pub decreases-digits : goal.decreases-digits
decreases-digits l = length l.rest
