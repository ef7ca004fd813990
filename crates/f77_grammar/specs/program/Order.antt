-- The order of statements (ANSI X3.9-1978, section 3.5): PROGRAM, IMPLICIT NONE, declarations, executable statements,
-- END.
use Rattle.std.specs.Prelude.{Bool, true, false, not, List, [], ◌∷◌}
use Rattle.std.specs.List.{list_any}
use Rattle.f77_grammar.specs.Statement77.{Labelled, Statement77, Program, ImplicitNone, Declare, Dimension, Constants}
use Rattle.f77_grammar.specs.Statement77.{Assign, Go, Test, If, ElseIf, Else, EndIf, Do, EndDo, Continue, Stop, Read}
use Rattle.f77_grammar.specs.Statement77.{Print, End}
use Rattle.f77_grammar.specs.program.Text.{Place77, is_end77}

abbrev pub is_nothing77 : List Labelled → Bool
is_nothing77 [] = true
is_nothing77 (x ∷ xs) = false

-- a statement that a run executes; END takes no part in the order, since its place is a cause of its own
abbrev pub is_executable77 : Statement77 → Bool
is_executable77 (Program x) = false
is_executable77 ImplicitNone = false
is_executable77 (Declare k es) = false
is_executable77 (Dimension es) = false
is_executable77 (Constants ds) = false
is_executable77 End = false
is_executable77 (Assign left e) = true
is_executable77 (Go n) = true
is_executable77 (Test c s) = true
is_executable77 (If c) = true
is_executable77 (ElseIf c) = true
is_executable77 Else = true
is_executable77 EndIf = true
is_executable77 (Do label x a b c) = true
is_executable77 EndDo = true
is_executable77 Continue = true
is_executable77 Stop = true
is_executable77 (Read is) = true
is_executable77 (Print is) = true

abbrev pub stands_after_executable : Place77 → Bool
stands_after_executable p = list_any (λ (x : Labelled). is_executable77 x.statement) p.before

-- IMPLICIT NONE, a declaration or an executable statement
abbrev pub follows_title : Statement77 → Bool
follows_title (Program x) = false
follows_title End = false
follows_title _ = true

abbrev pub stands_after_more : Place77 → Bool
stands_after_more p = list_any (λ (x : Labelled). follows_title x.statement) p.before

-- PROGRAM isn't the first statement, IMPLICIT NONE comes after more than PROGRAM, or a declaration comes after an
-- executable statement
abbrev pub is_late77 : Statement77 → Place77 → Bool
is_late77 (Program x) p = not (is_nothing77 p.before)
is_late77 ImplicitNone p = stands_after_more p
is_late77 (Declare k es) p = stands_after_executable p
is_late77 (Dimension es) p = stands_after_executable p
is_late77 (Constants ds) p = stands_after_executable p
is_late77 _ p = false

abbrev pub is_out_of_order : Place77 → Bool
is_out_of_order p = is_late77 p.here.statement p

-- the last statement isn't END, or END stands before it
abbrev pub ends_program : List Labelled → Statement77 → Bool
ends_program [] s = is_end77 s
ends_program (x ∷ xs) s = not (is_end77 s)

abbrev pub is_ended_wrongly : Place77 → Bool
is_ended_wrongly p = not (ends_program p.after p.here.statement)
