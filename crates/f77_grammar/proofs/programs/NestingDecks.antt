-- Worked decks on the order of statements, on blocks and loops, and on END. Above each text stands the deck that it is of.
use Rattle.std.proofs.Common.{◌≡◌, refl, List, [], ◌∷◌, Some}
use lib.Chars.{codes}
use Rattle.tree.specs.Plain.{Binary, Single, items}
use Rattle.tree.specs.declared.ops.Op.TheVariants.{Add, Eq}
use Rattle.tree.specs.declared.ops.Kind.TheVariants.{Integer}
use Rattle.meaning.specs.Dialect.{fortran77}
use Rattle.tree.specs.declared.width.Width.TheVariants.{Plain}
use Rattle.tree.specs.Causes.{refusal_at}
use Rattle.tree.specs.declared.refusals.Cause.TheVariants as causes
use Rattle.f77_grammar.specs.Statement77.{Labelled, Program, Declare, Assign, Go, Test, If, ElseIf, Else, EndIf, Do, Continue, Stop, Print, End}
use Rattle.f77_grammar.specs.program.Program77.{findings}
use Rattle.meaning.proofs.DeckWords.{n, v, to}
use Rattle.f77_grammar.proofs.programs.Words.{s, l, scalar}
use Rattle.f77_grammar.proofs.programs.Least.{least}

--       I = 1
--       PROGRAM P
--       END
abbrev program_second : List Labelled
program_second =
    s 1 (Assign (to "I") (n 1))
    ∷ s 2 (Program (codes "P"))
    ∷ s 3 (End)
    ∷ []

program_second_refused : least (findings (fortran77 Plain) program_second) ≡ Some (refusal_at causes.Nesting 2)
program_second_refused = refl

--       PROGRAM P
--       I = 1
--       END
abbrev program_first : List Labelled
program_first =
    s 1 (Program (codes "P"))
    ∷ s 2 (Assign (to "I") (n 1))
    ∷ s 3 (End)
    ∷ []

program_first_read : findings (fortran77 Plain) program_first ≡ []
program_first_read = refl

--       I = 1
--       INTEGER J
--       END
abbrev declaration_late : List Labelled
declaration_late =
    s 1 (Assign (to "I") (n 1))
    ∷ s 2 (Declare Integer (scalar "J" ∷ []))
    ∷ s 3 (End)
    ∷ []

declaration_late_refused : least (findings (fortran77 Plain) declaration_late) ≡ Some (refusal_at causes.Nesting 2)
declaration_late_refused = refl

--       INTEGER J
--       I = 1
--       END
abbrev declaration_early : List Labelled
declaration_early =
    s 1 (Declare Integer (scalar "J" ∷ []))
    ∷ s 2 (Assign (to "I") (n 1))
    ∷ s 3 (End)
    ∷ []

declaration_early_read : findings (fortran77 Plain) declaration_early ≡ []
declaration_early_read = refl

--       I = 1
--       END
--       INTEGER J
--       END
abbrev declaration_after_early_end : List Labelled
declaration_after_early_end =
    s 1 (Assign (to "I") (n 1))
    ∷ s 2 (End)
    ∷ s 3 (Declare Integer (scalar "J" ∷ []))
    ∷ s 4 (End)
    ∷ []

declaration_after_early_end_refused : least (findings (fortran77 Plain) declaration_after_early_end) ≡ Some (refusal_at causes.Nesting 3)
declaration_after_early_end_refused = refl

--       I = 1
--       IF (I .EQ. 1) THEN
--       I = 2
--       END
abbrev if_left_open : List Labelled
if_left_open =
    s 1 (Assign (to "I") (n 1))
    ∷ s 2 (If (Binary Eq (v "I") (n 1)))
    ∷ s 3 (Assign (to "I") (n 2))
    ∷ s 4 (End)
    ∷ []

if_left_open_refused : least (findings (fortran77 Plain) if_left_open) ≡ Some (refusal_at causes.Nesting 2)
if_left_open_refused = refl

--       I = 1
--       IF (I .EQ. 1) THEN
--       I = 2
--       END IF
--       END
abbrev if_ended : List Labelled
if_ended =
    s 1 (Assign (to "I") (n 1))
    ∷ s 2 (If (Binary Eq (v "I") (n 1)))
    ∷ s 3 (Assign (to "I") (n 2))
    ∷ s 4 (EndIf)
    ∷ s 5 (End)
    ∷ []

if_ended_read : findings (fortran77 Plain) if_ended ≡ []
if_ended_read = refl

--       I = 1
--       END IF
--       END
abbrev end_if_without_if : List Labelled
end_if_without_if =
    s 1 (Assign (to "I") (n 1))
    ∷ s 2 (EndIf)
    ∷ s 3 (End)
    ∷ []

end_if_without_if_refused : least (findings (fortran77 Plain) end_if_without_if) ≡ Some (refusal_at causes.Nesting 2)
end_if_without_if_refused = refl

--    10 CONTINUE
--       DO 10 I = 1, 3
--       END
abbrev do_label_before : List Labelled
do_label_before =
    l 10 1 (Continue)
    ∷ s 2 (Do (Some 10) (codes "I") (n 1) (n 3) (n 1))
    ∷ s 3 (End)
    ∷ []

do_label_before_refused : least (findings (fortran77 Plain) do_label_before) ≡ Some (refusal_at causes.Nesting 2)
do_label_before_refused = refl

--       DO 10 I = 1, 3
--       DO 20 J = 1, 3
--    10 CONTINUE
--    20 CONTINUE
--       END
abbrev crossed_loops : List Labelled
crossed_loops =
    s 1 (Do (Some 10) (codes "I") (n 1) (n 3) (n 1))
    ∷ s 2 (Do (Some 20) (codes "J") (n 1) (n 3) (n 1))
    ∷ l 10 3 (Continue)
    ∷ l 20 4 (Continue)
    ∷ s 5 (End)
    ∷ []

crossed_loops_refused : least (findings (fortran77 Plain) crossed_loops) ≡ Some (refusal_at causes.Nesting 3)
crossed_loops_refused = refl

--       DO 10 I = 1, 3
--       DO 20 J = 1, 3
--    20 CONTINUE
--    10 CONTINUE
--       END
abbrev loops_in_each_other : List Labelled
loops_in_each_other =
    s 1 (Do (Some 10) (codes "I") (n 1) (n 3) (n 1))
    ∷ s 2 (Do (Some 20) (codes "J") (n 1) (n 3) (n 1))
    ∷ l 20 3 (Continue)
    ∷ l 10 4 (Continue)
    ∷ s 5 (End)
    ∷ []

loops_in_each_other_read : findings (fortran77 Plain) loops_in_each_other ≡ []
loops_in_each_other_read = refl

--       DO 10 I = 1, 3
--       DO 10 J = 1, 3
--    10 K = K + 1
--       END
abbrev loops_with_one_end : List Labelled
loops_with_one_end =
    s 1 (Do (Some 10) (codes "I") (n 1) (n 3) (n 1))
    ∷ s 2 (Do (Some 10) (codes "J") (n 1) (n 3) (n 1))
    ∷ l 10 3 (Assign (to "K") (Binary Add (v "K") (n 1)))
    ∷ s 4 (End)
    ∷ []

loops_with_one_end_read : findings (fortran77 Plain) loops_with_one_end ≡ []
loops_with_one_end_read = refl

--       IF (I .EQ. 1) THEN
--       DO 10 J = 1, 3
--       END IF
--    10 CONTINUE
--       END
abbrev loop_over_end_if : List Labelled
loop_over_end_if =
    s 1 (If (Binary Eq (v "I") (n 1)))
    ∷ s 2 (Do (Some 10) (codes "J") (n 1) (n 3) (n 1))
    ∷ s 3 (EndIf)
    ∷ l 10 4 (Continue)
    ∷ s 5 (End)
    ∷ []

loop_over_end_if_refused : least (findings (fortran77 Plain) loop_over_end_if) ≡ Some (refusal_at causes.Nesting 3)
loop_over_end_if_refused = refl

--       DO 10 J = 1, 3
--       IF (I .EQ. 1) THEN
--    10 CONTINUE
--       END IF
--       END
abbrev if_over_loop_end : List Labelled
if_over_loop_end =
    s 1 (Do (Some 10) (codes "J") (n 1) (n 3) (n 1))
    ∷ s 2 (If (Binary Eq (v "I") (n 1)))
    ∷ l 10 3 (Continue)
    ∷ s 4 (EndIf)
    ∷ s 5 (End)
    ∷ []

if_over_loop_end_refused : least (findings (fortran77 Plain) if_over_loop_end) ≡ Some (refusal_at causes.Nesting 3)
if_over_loop_end_refused = refl

--       DO 10 J = 1, 3
--       IF (I .EQ. 1) THEN
--       K = 1
--       END IF
--    10 CONTINUE
--       END
abbrev if_in_loop : List Labelled
if_in_loop =
    s 1 (Do (Some 10) (codes "J") (n 1) (n 3) (n 1))
    ∷ s 2 (If (Binary Eq (v "I") (n 1)))
    ∷ s 3 (Assign (to "K") (n 1))
    ∷ s 4 (EndIf)
    ∷ l 10 5 (Continue)
    ∷ s 6 (End)
    ∷ []

if_in_loop_read : findings (fortran77 Plain) if_in_loop ≡ []
if_in_loop_read = refl

--       IF (I .EQ. 1) THEN
--       ELSE
--       ELSE
--       END IF
--       END
abbrev two_else_parts : List Labelled
two_else_parts =
    s 1 (If (Binary Eq (v "I") (n 1)))
    ∷ s 2 (Else)
    ∷ s 3 (Else)
    ∷ s 4 (EndIf)
    ∷ s 5 (End)
    ∷ []

two_else_parts_refused : least (findings (fortran77 Plain) two_else_parts) ≡ Some (refusal_at causes.Nesting 3)
two_else_parts_refused = refl

--       IF (I .EQ. 1) THEN
--       ELSE
--       ELSE IF (I .EQ. 2) THEN
--       END IF
--       END
abbrev else_if_after_else : List Labelled
else_if_after_else =
    s 1 (If (Binary Eq (v "I") (n 1)))
    ∷ s 2 (Else)
    ∷ s 3 (ElseIf (Binary Eq (v "I") (n 2)))
    ∷ s 4 (EndIf)
    ∷ s 5 (End)
    ∷ []

else_if_after_else_refused : least (findings (fortran77 Plain) else_if_after_else) ≡ Some (refusal_at causes.Nesting 3)
else_if_after_else_refused = refl

--       IF (I .EQ. 1) THEN
--       ELSE IF (I .EQ. 2) THEN
--       ELSE
--       END IF
--       END
abbrev else_if_before_else : List Labelled
else_if_before_else =
    s 1 (If (Binary Eq (v "I") (n 1)))
    ∷ s 2 (ElseIf (Binary Eq (v "I") (n 2)))
    ∷ s 3 (Else)
    ∷ s 4 (EndIf)
    ∷ s 5 (End)
    ∷ []

else_if_before_else_read : findings (fortran77 Plain) else_if_before_else ≡ []
else_if_before_else_read = refl

--       IF (I .EQ. 1) THEN
--       IF (J .EQ. 1) THEN
--       ELSE
--       END IF
--       ELSE
--       END IF
--       END
abbrev else_of_an_inner_if : List Labelled
else_of_an_inner_if =
    s 1 (If (Binary Eq (v "I") (n 1)))
    ∷ s 2 (If (Binary Eq (v "J") (n 1)))
    ∷ s 3 (Else)
    ∷ s 4 (EndIf)
    ∷ s 5 (Else)
    ∷ s 6 (EndIf)
    ∷ s 7 (End)
    ∷ []

else_of_an_inner_if_read : findings (fortran77 Plain) else_of_an_inner_if ≡ []
else_of_an_inner_if_read = refl

--       IF (I .EQ. 1) THEN
--       DO 10 J = 1, 3
--       ELSE
--    10 CONTINUE
--       END IF
--       END
abbrev else_in_a_loop : List Labelled
else_in_a_loop =
    s 1 (If (Binary Eq (v "I") (n 1)))
    ∷ s 2 (Do (Some 10) (codes "J") (n 1) (n 3) (n 1))
    ∷ s 3 (Else)
    ∷ l 10 4 (Continue)
    ∷ s 5 (EndIf)
    ∷ s 6 (End)
    ∷ []

else_in_a_loop_refused : least (findings (fortran77 Plain) else_in_a_loop) ≡ Some (refusal_at causes.Nesting 3)
else_in_a_loop_refused = refl

--       ELSE
--       END
abbrev else_alone : List Labelled
else_alone =
    s 1 (Else)
    ∷ s 2 (End)
    ∷ []

else_alone_refused : least (findings (fortran77 Plain) else_alone) ≡ Some (refusal_at causes.Nesting 1)
else_alone_refused = refl

--       DO 10 J = 1, 3
--    10 GO TO 20
--    20 CONTINUE
--       END
abbrev loop_ends_on_go_to : List Labelled
loop_ends_on_go_to =
    s 1 (Do (Some 10) (codes "J") (n 1) (n 3) (n 1))
    ∷ l 10 2 (Go 20)
    ∷ l 20 3 (Continue)
    ∷ s 4 (End)
    ∷ []

loop_ends_on_go_to_refused : least (findings (fortran77 Plain) loop_ends_on_go_to) ≡ Some (refusal_at causes.Nesting 2)
loop_ends_on_go_to_refused = refl

--       DO 10 J = 1, 3
--    10 IF (J .EQ. 2) GO TO 20
--    20 CONTINUE
--       END
abbrev loop_ends_on_logical_if : List Labelled
loop_ends_on_logical_if =
    s 1 (Do (Some 10) (codes "J") (n 1) (n 3) (n 1))
    ∷ l 10 2 (Test (Binary Eq (v "J") (n 2)) (Go 20))
    ∷ l 20 3 (Continue)
    ∷ s 4 (End)
    ∷ []

loop_ends_on_logical_if_read : findings (fortran77 Plain) loop_ends_on_logical_if ≡ []
loop_ends_on_logical_if_read = refl

--       DO 10 J = 1, 3
--    10 STOP
--       END
abbrev loop_ends_on_stop : List Labelled
loop_ends_on_stop =
    s 1 (Do (Some 10) (codes "J") (n 1) (n 3) (n 1))
    ∷ l 10 2 (Stop)
    ∷ s 3 (End)
    ∷ []

loop_ends_on_stop_refused : least (findings (fortran77 Plain) loop_ends_on_stop) ≡ Some (refusal_at causes.Nesting 2)
loop_ends_on_stop_refused = refl

--       DO 10 J = 1, 3
--    10 END
abbrev loop_ends_on_end : List Labelled
loop_ends_on_end =
    s 1 (Do (Some 10) (codes "J") (n 1) (n 3) (n 1))
    ∷ l 10 2 (End)
    ∷ []

loop_ends_on_end_refused : least (findings (fortran77 Plain) loop_ends_on_end) ≡ Some (refusal_at causes.Nesting 2)
loop_ends_on_end_refused = refl

--       DO 10 J = 1, 3
--    10 PRINT *, J
--       END
abbrev loop_ends_on_print : List Labelled
loop_ends_on_print =
    s 1 (Do (Some 10) (codes "J") (n 1) (n 3) (n 1))
    ∷ l 10 2 (Print (items (Single (v "J") ∷ [])))
    ∷ s 3 (End)
    ∷ []

loop_ends_on_print_read : findings (fortran77 Plain) loop_ends_on_print ≡ []
loop_ends_on_print_read = refl

--       I = 1
--       PRINT *, I
abbrev end_missing : List Labelled
end_missing =
    s 1 (Assign (to "I") (n 1))
    ∷ s 2 (Print (items (Single (v "I") ∷ [])))
    ∷ []

end_missing_refused : least (findings (fortran77 Plain) end_missing) ≡ Some (refusal_at causes.NoEnd 2)
end_missing_refused = refl

--       I = 1
--       PRINT *, I
--       END
abbrev end_last : List Labelled
end_last =
    s 1 (Assign (to "I") (n 1))
    ∷ s 2 (Print (items (Single (v "I") ∷ [])))
    ∷ s 3 (End)
    ∷ []

end_last_read : findings (fortran77 Plain) end_last ≡ []
end_last_read = refl

--       END
--       I = 1
abbrev end_early : List Labelled
end_early =
    s 1 (End)
    ∷ s 2 (Assign (to "I") (n 1))
    ∷ []

end_early_refused : least (findings (fortran77 Plain) end_early) ≡ Some (refusal_at causes.NoEnd 1)
end_early_refused = refl

abbrev no_statements : List Labelled
no_statements =
    []

no_statements_refused : least (findings (fortran77 Plain) no_statements) ≡ Some (refusal_at causes.NoEnd 0)
no_statements_refused = refl
