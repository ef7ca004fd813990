-- The keyword that the code finds.
use Rattle.std.specs.Prelude.{◌≡◌, Option, Some, None, List}
use Rattle.std.specs.Borrow.{Bor}
use Rattle.f77_expressions.specs.Symbols.{symbols_of}
use Rattle.f77_expressions.specs.declared.symbols.Symbol.{Symbol}
use Rattle.f77_statement.specs.declared.keywords.Keyword.{Keyword}
use Rattle.f77_statement.specs.Keywords.{Front}

abbrev pub KeywordOption : Option (Keyword × Bor (List Symbol)) → Option Front → Type 0
KeywordOption (Some r) front = front ≡ Some (record { keyword = r.0; rest = symbols_of r.1.now })
KeywordOption None front = front ≡ None
