-- The text of a printed program conforms as the program, and no text conforms as two programs.
use Rattle.std.specs.Prelude.{◌≡◌, Some, ℕ, List}
use Rattle.tree.specs.Plain.{Program}
use Rattle.f90_grammar.specs.PrintedForms.{printed_title_of}
use Rattle.f90_grammar.specs.Refusals.{Conforms90}
use Rattle.f90_laws.specs.printed.ReadBack.{SameButNumbers}

-- The text conforms as a program that has a title, and the program's declarations and statements with their marks, each
-- with the number of its line in the text
pub record IsReadAs (p : Program) (text : List ℕ) : Type 0 where
  pub program : Program
  pub reads : Conforms90 text program
  pub title : program.name ≡ Some (printed_title_of p.name)
  pub same : SameButNumbers p program
