-- The lines that are left to read.
use Rattle.std.specs.Prelude.{List}
use Rattle.f77_cards.specs.declared.source.Lines.{Lines}
use Rattle.f77_grammar.specs.Cards.{Line, statement_lines_from}

abbrev pub lines_left : Lines → List Line
lines_left lines = statement_lines_from lines.number lines.rest.now
