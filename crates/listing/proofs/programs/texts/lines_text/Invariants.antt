-- The lines so far.
use Rattle.std.proofs.Common.{◌≡◌, map, take}
use Rattle.std.specs.List.{flat_map}
use Rattle.f90_grammar.specs.PrintedText.{with_line_feed}
use Rattle.f90_print.specs.Notes.{line_text}
use Rattle.listing.proofs.programs.texts.lines_text.Given as goal

abbrev pub invariant-loop-line : goal.invariant-loop-line
invariant-loop-line l = l.text.items ≡ flat_map with_line_feed (map line_text (take l.line-index l.lines))
