-- What the code holds, in the words of the definitions.
use Rattle.std.specs.Prelude.{List, map}
use Rattle.f90_grammar.specs.FreeForm as free
use Rattle.f90_grammar.specs.LineCauses as grammar
use Rattle.f90_lines.specs.declared.parts.LinePart.{LinePart}
use Rattle.f90_lines.specs.declared.readings.Reading.{Reading}
use Rattle.f90_lines.specs.declared.readings.Reading.TheVariants.{Ahead, Inside}
use Rattle.f90_lines.specs.declared.readings.Statement.{Statement}
use Rattle.f90_lines.specs.declared.refusals.Standing.{Standing}
use Rattle.f90_lines.specs.declared.refusals.Standing.TheVariants.{Between, Within}
use Rattle.f90_lines.specs.Parts as parts
use Rattle.f90_lines.specs.Readings as readings

abbrev pub part_seen : LinePart → parts.LinePart
part_seen p = parts.part p.is_pulled p.is_continued p.chars.now

abbrev pub standing_seen : Standing → grammar.LineState
standing_seen Between = grammar.Between
standing_seen (Within initial o) = grammar.Within initial o

abbrev pub statement_seen : Statement → free.FreeStatement
statement_seen s = free.free_statement_at s.line s.ahead s.chars s.within

abbrev pub statements_seen : List Statement → List free.FreeStatement
statements_seen ss = map statement_seen ss

abbrev pub reading_seen : Reading → readings.Reading
reading_seen (Ahead ms) = readings.Ahead ms
reading_seen (Inside s o) = readings.Inside (statement_seen s) o
