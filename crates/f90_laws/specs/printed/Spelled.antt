-- Texts that are statements in free form without comments, and the law that those of a printed program are.
use Rattle.std.specs.Prelude.{◌≡◌, ◌≤◌, false, ◌||◌, IsTrue, List}
use Rattle.std.specs.List.{AllByRecursion}
use Rattle.tree.specs.Plain.{Program}
use Rattle.meaning.specs.Names.{begins_with}
use Rattle.meaning.specs.SymbolicNames.{is_letter, is_digit}
use Rattle.meaning.specs.Profile90.{IsProgram90}
use Rattle.f90_grammar.specs.FreeForm.{has_comment, is_open_behind}
use Rattle.f90_grammar.specs.Words.{Word90, HasWords}
use Rattle.f90_grammar.specs.Forms.{Form90, IsWritten90}
use Rattle.f90_grammar.specs.PrintedForms.{Printed, printed_program}
use Rattle.f90_grammar.specs.PrintedText.{form_text}

-- The text of a form has words in which the form is written (ISO/IEC 1539:1991, section 3.2). Its characters are
-- printable, it has no comment and closes each constant, and a letter or a digit stands first
pub record IsSpelled (f : Form90) : Type 0 where
  pub in_words : List Word90
  pub has_words : HasWords (form_text f) in_words
  pub is_written : IsWritten90 f in_words
  pub printable : AllByRecursion (λ c. (32 ≤ c) × (c ≤ 126)) (form_text f)
  pub no_comment : has_comment false (form_text f) ≡ false
  pub closed : is_open_behind false (form_text f) ≡ false
  pub begins : IsTrue (begins_with (λ c. is_letter c || is_digit c) (form_text f))

-- so it is with each statement of a printed program
abbrev pub PrintedIsSpelled : Type 0
PrintedIsSpelled = (p : Program) → IsProgram90 p
    → AllByRecursion (λ (s : Printed). IsSpelled s.form) (printed_program p)
