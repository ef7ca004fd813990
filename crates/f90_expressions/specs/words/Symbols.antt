-- The symbols that the code holds, as symbols of the grammar, and what the scan returns.
use Rattle.std.specs.Prelude.{◌≡◌, List, map, Option, Some, None, Result, Ok, Err}
use Rattle.std.specs.declared.alloc.Global.{Global}
use Rattle.std.specs.declared.vec.Vec.{Vec}
use Rattle.f90_grammar.specs.Words as words
use Rattle.f90_expressions.specs.declared.words.symbols.Mode.{Mode}
use Rattle.f90_expressions.specs.declared.words.symbols.Mode.TheVariants.{Out, In, Closing}
use Rattle.f90_expressions.specs.declared.words.symbols.Symbol.{Symbol}
use Rattle.f90_expressions.specs.declared.words.symbols.Symbol.TheVariants.{Char, Gap, Text}
use Rattle.reading.specs.declared.stops.Stop.{Stop}
use Rattle.reading.specs.declared.stops.Stop.TheVariants.{Syntax, Memory}
use Rattle.f90_expressions.specs.words.Scanning as scanning
use Rattle.f90_expressions.specs.words.Scanning.{with_front}

abbrev pub symbol_of : Symbol → words.Symbol90
symbol_of (Char c) = words.Char c
symbol_of Gap = words.Gap
symbol_of (Text t) = words.Text t

abbrev pub symbols_of : List Symbol → List words.Symbol90
symbols_of symbols = map symbol_of symbols

abbrev pub mode_of : Mode → scanning.Mode
mode_of Out = scanning.Out
mode_of (In t) = scanning.In t
mode_of (Closing t) = scanning.Closing t

abbrev pub Scan : Type 0
Scan = (scanning.Mode → Option (List words.Symbol90)) → Option (List words.Symbol90)

-- the scan goes on so, without a further symbol
abbrev pub Goes : Result Mode Stop → Scan → Type 0
Goes (Ok m) scan = (on : scanning.Mode → Option (List words.Symbol90)) → scan on ≡ on (mode_of m)
Goes (Err Syntax) scan = (on : scanning.Mode → Option (List words.Symbol90)) → scan on ≡ None
Goes (Err Memory) scan = Unit {0}

-- and with the symbols that were found since
abbrev pub Scans : Result Mode Stop → List Symbol → List Symbol → Scan → Type 0
Scans (Ok m) before after scan = (on : scanning.Mode → Option (List words.Symbol90))
    → with_front (symbols_of before) (scan on) ≡ with_front (symbols_of after) (on (mode_of m))
Scans (Err Syntax) before after scan = (on : scanning.Mode → Option (List words.Symbol90)) → scan on ≡ None
Scans (Err Memory) before after scan = Unit {0}

abbrev pub EndsScan : Result (Vec Symbol Global) Stop → Option (List words.Symbol90) → Type 0
EndsScan (Ok symbols) found = found ≡ Some (symbols_of symbols.items)
EndsScan (Err Syntax) found = found ≡ None
EndsScan (Err Memory) found = Unit {0}
