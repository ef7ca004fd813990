-- A printed program conforms as itself, on other lines, and as nothing else.
use Rattle.std.specs.Prelude.{◌≡◌, ℕ, List}
use Rattle.std.specs.List.{AllByRecursion}
use Rattle.tree.specs.Plain.{Program}
use Rattle.meaning.specs.Profile90.{IsProgram90}
use Rattle.f90_grammar.specs.PrintedText.{IsNote, printed90}
use Rattle.f90_grammar.specs.Refusals.{Conforms90}
use Rattle.f90_laws.specs.read_back.ReadBack.{IsReadAs}

-- with any notes before it
abbrev pub PrintedProgramIsRead : Type 0
PrintedProgramIsRead = (p : Program) (notes : List (List ℕ)) → IsProgram90 p → AllByRecursion IsNote notes
    → IsReadAs p (printed90 p notes)

-- a text conforms, and so is read, as one program
abbrev pub OneProgram : Type 0
OneProgram = (text : List ℕ) (q r : Program) → Conforms90 text q → Conforms90 text r → q ≡ r
