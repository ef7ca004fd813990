use Rattle.std.proofs.Common.{◌≡◌, length}
use Rattle.f90_expressions.specs.words.Tokens.{words_of}
use Rattle.f90_statement.specs.items.Commas.{comma_marks}
use Rattle.f90_statement.specs.items.Views.{direction_of, IsReading}
use Rattle.f90_statement.proofs.items.reader.parts.Given as goal

abbrev pub invariant-reading : goal.invariant-reading
invariant-reading l = record {
  reading : IsReading (direction_of l.direction) (words_of l.tokens) l.nodes.items l.due l.loops (words_of l.rest);
  marks_are : l.marks.items ≡ comma_marks (words_of l.tokens);
}

abbrev pub decreases-reading : goal.decreases-reading
decreases-reading l = length l.rest
