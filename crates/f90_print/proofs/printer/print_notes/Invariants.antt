use Rattle.std.proofs.Common.{◌≡◌, ◌++◌, map, take}
use Rattle.f90_print.specs.Notes.{line_text}
use Rattle.f90_print.specs.Texts.{lines_text}
use Rattle.f90_print.proofs.printer.print_notes.Given as goal

-- the notes so far are printed
abbrev pub invariant-loop-note : goal.invariant-loop-note
invariant-loop-note l = l.out.items ≡ l.fn.out.items ++ lines_text (map line_text (take l.note-index l.notes))
