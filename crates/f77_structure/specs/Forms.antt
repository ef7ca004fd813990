-- What a statement is to the order and the nesting of statements.
use Rattle.std.specs.Prelude.{ℕ, pred, suc, ◌==◌, Bool, true, false, not, Option, Some, None, List, [], ◌∷◌}
use Rattle.f77_grammar.specs.Statement77 as S
use Rattle.f77_grammar.specs.Statement77.{Labelled}
use Rattle.f77_structure.specs.declared.forms.Form.{Form}
use Rattle.f77_structure.specs.declared.forms.Form.TheVariants.{Title, ImplicitNone, Declaration, Action, Go, Stop}
use Rattle.f77_structure.specs.declared.forms.Form.TheVariants.{LogicalIf, If, ElseIf, Else, EndIf, Do, EndDo, End}

abbrev pub form_of : S.Statement77 → Form
form_of (S.Program x) = Title
form_of S.ImplicitNone = ImplicitNone
form_of (S.Declare k es) = Declaration
form_of (S.Dimension es) = Declaration
form_of (S.Constants ds) = Declaration
form_of (S.Assign left e) = Action
form_of (S.Go n) = Go n
form_of (S.Test c s) = LogicalIf
form_of (S.If c) = If
form_of (S.ElseIf c) = ElseIf
form_of S.Else = Else
form_of S.EndIf = EndIf
form_of (S.Do label x a b c) = Do label
form_of S.EndDo = EndDo
form_of S.Continue = Action
form_of S.Stop = Stop
form_of (S.Read is) = Action
form_of (S.Print is) = Action
form_of S.End = End

-- the label that a statement of this form names
abbrev pub label_in : Form → Option ℕ
label_in (Go n) = Some n
label_in (Do label) = label
label_in _ = None

abbrev pub is_executable_form : Form → Bool
is_executable_form Title = false
is_executable_form ImplicitNone = false
is_executable_form Declaration = false
is_executable_form End = false
is_executable_form Action = true
is_executable_form (Go n) = true
is_executable_form Stop = true
is_executable_form LogicalIf = true
is_executable_form If = true
is_executable_form ElseIf = true
is_executable_form Else = true
is_executable_form EndIf = true
is_executable_form (Do label) = true
is_executable_form EndDo = true

-- IMPLICIT NONE, a declaration or an executable statement
abbrev pub follows_title_form : Form → Bool
follows_title_form Title = false
follows_title_form End = false
follows_title_form _ = true

-- END anywhere but last, or another statement last
abbrev pub is_wrong_end_form : Form → Bool → Bool
is_wrong_end_form End last = not last
is_wrong_end_form _ last = last

-- it comes too late: PROGRAM anywhere but first, IMPLICIT NONE behind more than PROGRAM, a declaration behind an
-- executable statement
abbrev pub is_late_form : Form → Bool → Bool → Bool → Bool
is_late_form Title first more executable = not first
is_late_form ImplicitNone first more executable = more
is_late_form Declaration first more executable = executable
is_late_form Action first more executable = false
is_late_form (Go n) first more executable = false
is_late_form Stop first more executable = false
is_late_form LogicalIf first more executable = false
is_late_form If first more executable = false
is_late_form ElseIf first more executable = false
is_late_form Else first more executable = false
is_late_form EndIf first more executable = false
is_late_form (Do label) first more executable = false
is_late_form EndDo first more executable = false
is_late_form End first more executable = false

-- a loop doesn't end on a statement of this form
abbrev pub is_no_end_form : Form → Bool
is_no_end_form Title = false
is_no_end_form ImplicitNone = false
is_no_end_form Declaration = false
is_no_end_form Action = false
is_no_end_form LogicalIf = false
is_no_end_form EndDo = false
is_no_end_form (Go n) = true
is_no_end_form Stop = true
is_no_end_form If = true
is_no_end_form ElseIf = true
is_no_end_form Else = true
is_no_end_form EndIf = true
is_no_end_form (Do label) = true
is_no_end_form End = true

-- the label of a DO
abbrev pub begun_in : Form → Option ℕ
begun_in (Do label) = label
begun_in _ = None

-- the END IF statements that are still without their block IF, with a statement in front of those where there are n
abbrev pub pending_with : Form → ℕ → ℕ
pending_with EndIf n = suc n
pending_with If n = pred n
pending_with _ n = n

abbrev pub pending : List Labelled → ℕ
pending [] = 0
pending (x ∷ xs) = pending_with (form_of x.statement) (pending xs)

-- a block IF, and no END IF is left for it
abbrev pub lacks_end_if : Form → ℕ → Bool
lacks_end_if If n = n == 0
lacks_end_if _ n = false
