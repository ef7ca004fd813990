-- The text of a printed program is read back as that program.
use Rattle.std.proofs.Common.{ℕ, List, [], ◌∷◌}
use Rattle.std.specs.List.{AllByRecursion}
use Rattle.std.specs.Str.Lines.{lines}
use Rattle.tree.specs.Plain.{Program}
use Rattle.meaning.specs.Profile90.{IsProgram90}
use Rattle.f90_grammar.specs.PrintedForms.{Printed, printed_program}
use Rattle.f90_grammar.specs.PrintedText.{IsNote, printed90}
use Rattle.f90_laws.specs.printed.Spelled.{IsSpelled}
use Rattle.f90_laws.specs.printed.Laws.{IsReadBack, IsFreeLine}
use Rattle.f90_laws.proofs.printed.PrintedBlocksItems.{EachReadsBack}
use Rattle.f90_laws.proofs.printed.PrintedBlocksProgram.{program_back}
use Rattle.f90_laws.proofs.printed.PrintedLines.{IsReadable, text_read, lines_free}
use Rattle.f90_laws.proofs.printed.PrintedLinesEnds.{spelled_end}
use Rattle.f90_laws.proofs.printed.PrintedLinesTaken.{MarkSuits, program_suits}
use Rattle.f90_laws.proofs.unrefused.ProgramParts.{is_program}

pub each_readable : (ss : List Printed) → AllByRecursion (λ (s : Printed). IsSpelled s.form) ss → AllByRecursion MarkSuits ss → AllByRecursion IsReadable ss
each_readable [] h k = tt
each_readable (s ∷ ss) h k =
    (record { spelled = h.0; ends = spelled_end s.form h.0; mark = k.0.is_mark; taken = k.0.taken }, each_readable ss h.1 k.1)

-- where its statements are spelled, and its expressions are read back
pub text_back : (p : Program) (notes : List (List ℕ)) → IsProgram90 p → AllByRecursion IsNote notes
    → AllByRecursion (λ (s : Printed). IsSpelled s.form) (printed_program p) → EachReadsBack p.declarations → IsReadBack p (printed90 p notes)
text_back p notes h good spelled back =
    let t = text_read p notes good (each_readable (printed_program p) spelled (program_suits p h)) in
    let r = program_back p h back t.placed t.places in
    record {
      statements = t.placed;
      program = r.program;
      of_text = t.of_text;
      are = is_program t.placed r.program r.are;
      title = r.title;
      same = r.same;
    }

pub text_lines_free : (p : Program) (notes : List (List ℕ)) → IsProgram90 p → AllByRecursion IsNote notes
    → AllByRecursion (λ (s : Printed). IsSpelled s.form) (printed_program p) → AllByRecursion IsFreeLine (lines (printed90 p notes))
text_lines_free p notes h good spelled = lines_free p notes good (each_readable (printed_program p) spelled (program_suits p h))
