use Rattle.std.proofs.Common.{◌≡◌, ◌++◌, [], length}
use Rattle.std.specs.Str.Lines.{lines}
use Rattle.f90_lines.specs.Readings.{Ahead, statements_of}
use Rattle.f90_lines.specs.Views.{statements_seen, reading_seen}
use Rattle.f90_lines.proofs.texts.read_statements.Given as goal

abbrev pub invariant-reading : goal.invariant-reading
invariant-reading l =
    statements_of 0 (Ahead []) (lines l.text)
    ≡ statements_seen l.statements ++ statements_of l.lines.taken (reading_seen l.reading) (lines l.lines.rest.now)

abbrev pub decreases-reading : goal.decreases-reading
decreases-reading l = length l.lines.rest.now
