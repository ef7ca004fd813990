-- The text of a printed program is read back as the program, but for the numbers of its lines.
use Rattle.std.specs.Prelude.{◌≡◌, ◌≤◌, Some, ℕ, List, length}
use Rattle.std.specs.List.{AllByRecursion}
use Rattle.std.specs.Str.Lines.{lines}
use Rattle.tree.specs.Plain.{Program}
use Rattle.meaning.specs.Profile90.{IsProgram90}
use Rattle.f90_grammar.specs.PrintedForms.{printed_title_of}
use Rattle.f90_grammar.specs.PrintedText.{IsNote, printed90}
use Rattle.f90_grammar.specs.Blocks.{Placed}
use Rattle.f90_grammar.specs.Programs.{IsProgramOf}
use Rattle.f90_grammar.specs.Reading.{AreStatementsOf}
use Rattle.f90_laws.specs.printed.ReadBack.{SameButNumbers}

-- The text's statements are those of a program that has the title of the printed one, its declarations, and its
-- statements with their marks, each with the number of its line in the text
pub record IsReadBack (p : Program) (text : List ℕ) : Type 0 where
  pub statements : List Placed
  pub program : Program
  pub of_text : AreStatementsOf text statements
  pub are : IsProgramOf statements program
  pub title : program.name ≡ Some (printed_title_of p.name)
  pub same : SameButNumbers p program

-- with any notes before it
abbrev pub PrintedProgramIsReadBack : Type 0
PrintedProgramIsReadBack = (p : Program) (notes : List (List ℕ)) → IsProgram90 p → AllByRecursion IsNote notes
    → IsReadBack p (printed90 p notes)

-- a line of free form (ISO/IEC 1539:1991, section 3.3.1)
pub record IsFreeLine (line : List ℕ) : Type 0 where
  pub within : length line ≤ 132
  pub printable : AllByRecursion (λ c. (32 ≤ c) × (c ≤ 126)) line

abbrev pub PrintedLinesAreFree : Type 0
PrintedLinesAreFree = (p : Program) (notes : List (List ℕ)) → IsProgram90 p → AllByRecursion IsNote notes
    → AllByRecursion IsFreeLine (lines (printed90 p notes))
