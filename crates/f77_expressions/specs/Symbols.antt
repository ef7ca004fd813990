-- The symbols that the code holds, as symbols of the grammar.
use Rattle.std.specs.Prelude.{List, map}
use Rattle.f77_grammar.specs.expressions.Squeezing as squeezing
use Rattle.f77_expressions.specs.declared.symbols.Mode.{Mode}
use Rattle.f77_expressions.specs.declared.symbols.Mode.TheVariants.{Out, In, Closing}
use Rattle.f77_expressions.specs.declared.symbols.Symbol.{Symbol}
use Rattle.f77_expressions.specs.declared.symbols.Symbol.TheVariants.{Char, Text, Broken}
use Rattle.f77_expressions.specs.Scanning as scanning

abbrev pub symbol_of : Symbol → squeezing.Symbol77
symbol_of (Char c) = squeezing.Char c
symbol_of (Text t) = squeezing.Text t
symbol_of Broken = squeezing.Broken

abbrev pub symbols_of : List Symbol → List squeezing.Symbol77
symbols_of symbols = map symbol_of symbols

abbrev pub mode_of : Mode → scanning.Mode
mode_of Out = scanning.Out
mode_of (In t) = scanning.In t
mode_of (Closing t) = scanning.Closing t
