use Rattle.std.proofs.Common.{◌≤◌}
use Rattle.f77_expressions.specs.Symbols.{symbols_of}
use Rattle.f77_words.proofs.keywords.Searching.{IsSearchedTo}
use Rattle.f77_words.proofs.keywords.outside.Outside.of.Given as goal

abbrev pub invariant-searching : goal.invariant-searching
invariant-searching l = (l.opened ≤ l.symbol-index) × IsSearchedTo (symbols_of l.text) l.symbol-index l.opened l.found.equals l.found.comma
