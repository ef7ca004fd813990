-- What the code holds of the statements of a text.
use Rattle.std.specs.Prelude.{Option, Some, None, List, Result, Ok, Err}
use Rattle.tree.specs.declared.lists.Memory.{Memory}
use Rattle.f90_grammar.specs.Forms.{Form90, IsWritten90}
use Rattle.f90_grammar.specs.FreeForm.{FreeStatement}
use Rattle.f90_grammar.specs.Refusals.{IsFormOf90}
use Rattle.f90_grammar.specs.Words.{Word90}
use Rattle.f90_statement.specs.Reading.{IsStatement}
use Rattle.f90_statement.specs.Views.{IsStatementOf}
use Rattle.f90_statement.specs.declared.nodes.Statement.{Statement}

-- the statement has a form, of which that was made
pub record HasForm (s : FreeStatement) (made : Statement) : Type 0 where
  pub form : Form90
  pub is_of : IsStatementOf made form
  pub of : IsFormOf90 s form

abbrev pub IsFormIn : Option Statement → FreeStatement → Type 0
IsFormIn (Some made) s = HasForm s made
IsFormIn None s = (f : Form90) → IsFormOf90 s f → ⊥

-- ---- what functions return, unless memory ran out

abbrev pub ReadsForm : FreeStatement → Result (Option Statement) Memory → Type 0
ReadsForm s (Ok made) = IsFormIn made s
ReadsForm s (Err e) = Unit {0}

abbrev pub ReadsWords : List Word90 → Result (Option Statement) Memory → Type 0
ReadsWords ws (Ok (Some made)) = IsStatement ws made
ReadsWords ws (Ok None) = (f : Form90) → IsWritten90 f ws → ⊥
ReadsWords ws (Err e) = Unit {0}
