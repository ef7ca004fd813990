-- Worked decks on GO TO and on DO variables. Above each text stands the deck that it is of.
use Rattle.std.proofs.Common.{◌≡◌, refl, List, [], ◌∷◌, Some}
use lib.Chars.{codes}
use Rattle.tree.specs.Plain.{Binary, Single, ImpliedDo, items}
use Rattle.tree.specs.declared.ops.Op.TheVariants.{Add, Eq}
use Rattle.tree.specs.declared.ops.Kind.TheVariants.{Integer, Logical}
use Rattle.meaning.specs.Dialect.{fortran77}
use Rattle.tree.specs.declared.width.Width.TheVariants.{Plain}
use Rattle.tree.specs.Causes.{refusal_at}
use Rattle.tree.specs.declared.refusals.Cause.TheVariants as causes
use Rattle.f77_grammar.specs.Statement77.{Labelled, Declare, Constants, Assign, Go, Test, If, Else, EndIf, Do, Continue, Read, Print, End}
use Rattle.f77_grammar.specs.program.Program77.{findings}
use Rattle.meaning.proofs.DeckWords.{n, v, to}
use Rattle.f77_grammar.proofs.programs.Words.{s, l, scalar, array, constant}
use Rattle.f77_grammar.proofs.programs.Least.{least}

--    10 CONTINUE
--       GO TO 10
--       END
abbrev jump_back : List Labelled
jump_back =
    l 10 1 (Continue)
    ∷ s 2 (Go 10)
    ∷ s 3 (End)
    ∷ []

jump_back_refused : least (findings (fortran77 Plain) jump_back) ≡ Some (refusal_at causes.Jump 2)
jump_back_refused = refl

--       I = 1
--    10 GO TO 10
--       END
abbrev jump_to_itself : List Labelled
jump_to_itself =
    s 1 (Assign (to "I") (n 1))
    ∷ l 10 2 (Go 10)
    ∷ s 3 (End)
    ∷ []

jump_to_itself_refused : least (findings (fortran77 Plain) jump_to_itself) ≡ Some (refusal_at causes.Jump 2)
jump_to_itself_refused = refl

--       GO TO 10
--    10 CONTINUE
--       END
abbrev jump_on : List Labelled
jump_on =
    s 1 (Go 10)
    ∷ l 10 2 (Continue)
    ∷ s 3 (End)
    ∷ []

jump_on_read : findings (fortran77 Plain) jump_on ≡ []
jump_on_read = refl

--       GO TO 10
--       DO 20 I = 1, 3
--    10 CONTINUE
--    20 CONTINUE
--       END
abbrev jump_into_loop : List Labelled
jump_into_loop =
    s 1 (Go 10)
    ∷ s 2 (Do (Some 20) (codes "I") (n 1) (n 3) (n 1))
    ∷ l 10 3 (Continue)
    ∷ l 20 4 (Continue)
    ∷ s 5 (End)
    ∷ []

jump_into_loop_refused : least (findings (fortran77 Plain) jump_into_loop) ≡ Some (refusal_at causes.Jump 1)
jump_into_loop_refused = refl

--       GO TO 10
--       DO 20 I = 1, 3
--    20 CONTINUE
--    10 CONTINUE
--       END
abbrev jump_over_loop : List Labelled
jump_over_loop =
    s 1 (Go 10)
    ∷ s 2 (Do (Some 20) (codes "I") (n 1) (n 3) (n 1))
    ∷ l 20 3 (Continue)
    ∷ l 10 4 (Continue)
    ∷ s 5 (End)
    ∷ []

jump_over_loop_read : findings (fortran77 Plain) jump_over_loop ≡ []
jump_over_loop_read = refl

--       GO TO 10
--    10 DO 20 I = 1, 3
--    20 CONTINUE
--       END
abbrev jump_to_do : List Labelled
jump_to_do =
    s 1 (Go 10)
    ∷ l 10 2 (Do (Some 20) (codes "I") (n 1) (n 3) (n 1))
    ∷ l 20 3 (Continue)
    ∷ s 4 (End)
    ∷ []

jump_to_do_read : findings (fortran77 Plain) jump_to_do ≡ []
jump_to_do_read = refl

--       DO 20 I = 1, 3
--       IF (I .EQ. 2) GO TO 10
--    20 CONTINUE
--    10 CONTINUE
--       END
abbrev jump_out_of_loop : List Labelled
jump_out_of_loop =
    s 1 (Do (Some 20) (codes "I") (n 1) (n 3) (n 1))
    ∷ s 2 (Test (Binary Eq (v "I") (n 2)) (Go 10))
    ∷ l 20 3 (Continue)
    ∷ l 10 4 (Continue)
    ∷ s 5 (End)
    ∷ []

jump_out_of_loop_read : findings (fortran77 Plain) jump_out_of_loop ≡ []
jump_out_of_loop_read = refl

--       DO 20 I = 1, 3
--       IF (I .EQ. 2) GO TO 20
--       K = K + 1
--    20 CONTINUE
--       END
abbrev jump_to_end_of_loop : List Labelled
jump_to_end_of_loop =
    s 1 (Do (Some 20) (codes "I") (n 1) (n 3) (n 1))
    ∷ s 2 (Test (Binary Eq (v "I") (n 2)) (Go 20))
    ∷ s 3 (Assign (to "K") (Binary Add (v "K") (n 1)))
    ∷ l 20 4 (Continue)
    ∷ s 5 (End)
    ∷ []

jump_to_end_of_loop_read : findings (fortran77 Plain) jump_to_end_of_loop ≡ []
jump_to_end_of_loop_read = refl

--       DO 20 I = 1, 3
--       IF (I .EQ. 2) GO TO 20
--       DO 20 J = 1, 3
--    20 CONTINUE
--       END
abbrev jump_to_shared_end : List Labelled
jump_to_shared_end =
    s 1 (Do (Some 20) (codes "I") (n 1) (n 3) (n 1))
    ∷ s 2 (Test (Binary Eq (v "I") (n 2)) (Go 20))
    ∷ s 3 (Do (Some 20) (codes "J") (n 1) (n 3) (n 1))
    ∷ l 20 4 (Continue)
    ∷ s 5 (End)
    ∷ []

jump_to_shared_end_refused : least (findings (fortran77 Plain) jump_to_shared_end) ≡ Some (refusal_at causes.Jump 2)
jump_to_shared_end_refused = refl

--       GO TO 10
--       IF (I .EQ. 2) THEN
--    10 CONTINUE
--       END IF
--       END
abbrev jump_into_arm : List Labelled
jump_into_arm =
    s 1 (Go 10)
    ∷ s 2 (If (Binary Eq (v "I") (n 2)))
    ∷ l 10 3 (Continue)
    ∷ s 4 (EndIf)
    ∷ s 5 (End)
    ∷ []

jump_into_arm_refused : least (findings (fortran77 Plain) jump_into_arm) ≡ Some (refusal_at causes.Jump 1)
jump_into_arm_refused = refl

--       IF (I .EQ. 2) THEN
--       GO TO 10
--       ELSE
--    10 CONTINUE
--       END IF
--       END
abbrev jump_into_other_arm : List Labelled
jump_into_other_arm =
    s 1 (If (Binary Eq (v "I") (n 2)))
    ∷ s 2 (Go 10)
    ∷ s 3 (Else)
    ∷ l 10 4 (Continue)
    ∷ s 5 (EndIf)
    ∷ s 6 (End)
    ∷ []

jump_into_other_arm_refused : least (findings (fortran77 Plain) jump_into_other_arm) ≡ Some (refusal_at causes.Jump 2)
jump_into_other_arm_refused = refl

--       IF (I .EQ. 2) THEN
--       GO TO 10
--       ELSE
--       K = 1
--       END IF
--    10 CONTINUE
--       END
abbrev jump_out_of_arm : List Labelled
jump_out_of_arm =
    s 1 (If (Binary Eq (v "I") (n 2)))
    ∷ s 2 (Go 10)
    ∷ s 3 (Else)
    ∷ s 4 (Assign (to "K") (n 1))
    ∷ s 5 (EndIf)
    ∷ l 10 6 (Continue)
    ∷ s 7 (End)
    ∷ []

jump_out_of_arm_read : findings (fortran77 Plain) jump_out_of_arm ≡ []
jump_out_of_arm_read = refl

--       IF (I .EQ. 2) THEN
--       GO TO 10
--       IF (J .EQ. 2) THEN
--       K = 1
--       ELSE
--       K = 2
--       END IF
--    10 CONTINUE
--       END IF
--       END
abbrev jump_over_inner_else : List Labelled
jump_over_inner_else =
    s 1 (If (Binary Eq (v "I") (n 2)))
    ∷ s 2 (Go 10)
    ∷ s 3 (If (Binary Eq (v "J") (n 2)))
    ∷ s 4 (Assign (to "K") (n 1))
    ∷ s 5 (Else)
    ∷ s 6 (Assign (to "K") (n 2))
    ∷ s 7 (EndIf)
    ∷ l 10 8 (Continue)
    ∷ s 9 (EndIf)
    ∷ s 10 (End)
    ∷ []

jump_over_inner_else_read : findings (fortran77 Plain) jump_over_inner_else ≡ []
jump_over_inner_else_read = refl

--       IF (I .EQ. 2) THEN
--       GO TO 10
--    10 END IF
--       END
abbrev jump_to_end_if : List Labelled
jump_to_end_if =
    s 1 (If (Binary Eq (v "I") (n 2)))
    ∷ s 2 (Go 10)
    ∷ l 10 3 (EndIf)
    ∷ s 4 (End)
    ∷ []

jump_to_end_if_refused : least (findings (fortran77 Plain) jump_to_end_if) ≡ Some (refusal_at causes.Jump 2)
jump_to_end_if_refused = refl

--       DO 10 I = 1, 3
--       I = 2
--    10 CONTINUE
--       END
abbrev do_variable_assigned : List Labelled
do_variable_assigned =
    s 1 (Do (Some 10) (codes "I") (n 1) (n 3) (n 1))
    ∷ s 2 (Assign (to "I") (n 2))
    ∷ l 10 3 (Continue)
    ∷ s 4 (End)
    ∷ []

do_variable_assigned_refused : least (findings (fortran77 Plain) do_variable_assigned) ≡ Some (refusal_at causes.DoVariable 2)
do_variable_assigned_refused = refl

--       DO 10 I = 1, 3
--    10 I = 2
--       END
abbrev do_variable_assigned_last : List Labelled
do_variable_assigned_last =
    s 1 (Do (Some 10) (codes "I") (n 1) (n 3) (n 1))
    ∷ l 10 2 (Assign (to "I") (n 2))
    ∷ s 3 (End)
    ∷ []

do_variable_assigned_last_refused : least (findings (fortran77 Plain) do_variable_assigned_last) ≡ Some (refusal_at causes.DoVariable 2)
do_variable_assigned_last_refused = refl

--       DO 10 I = 1, 3
--    10 CONTINUE
--       I = 2
--       END
abbrev do_variable_assigned_after : List Labelled
do_variable_assigned_after =
    s 1 (Do (Some 10) (codes "I") (n 1) (n 3) (n 1))
    ∷ l 10 2 (Continue)
    ∷ s 3 (Assign (to "I") (n 2))
    ∷ s 4 (End)
    ∷ []

do_variable_assigned_after_read : findings (fortran77 Plain) do_variable_assigned_after ≡ []
do_variable_assigned_after_read = refl

--       DO 10 I = 1, 3
--    10 READ *, I
--       END
abbrev do_variable_read : List Labelled
do_variable_read =
    s 1 (Do (Some 10) (codes "I") (n 1) (n 3) (n 1))
    ∷ l 10 2 (Read (items (Single (v "I") ∷ [])))
    ∷ s 3 (End)
    ∷ []

do_variable_read_refused : least (findings (fortran77 Plain) do_variable_read) ≡ Some (refusal_at causes.DoVariable 2)
do_variable_read_refused = refl

--       DO 10 I = 1, 3
--       DO 10 I = 1, 3
--    10 CONTINUE
--       END
abbrev do_variable_twice : List Labelled
do_variable_twice =
    s 1 (Do (Some 10) (codes "I") (n 1) (n 3) (n 1))
    ∷ s 2 (Do (Some 10) (codes "I") (n 1) (n 3) (n 1))
    ∷ l 10 3 (Continue)
    ∷ s 4 (End)
    ∷ []

do_variable_twice_refused : least (findings (fortran77 Plain) do_variable_twice) ≡ Some (refusal_at causes.DoVariable 2)
do_variable_twice_refused = refl

--       LOGICAL L
--       DO 10 L = 1, 3
--    10 CONTINUE
--       END
abbrev do_variable_logical : List Labelled
do_variable_logical =
    s 1 (Declare Logical (scalar "L" ∷ []))
    ∷ s 2 (Do (Some 10) (codes "L") (n 1) (n 3) (n 1))
    ∷ l 10 3 (Continue)
    ∷ s 4 (End)
    ∷ []

do_variable_logical_refused : least (findings (fortran77 Plain) do_variable_logical) ≡ Some (refusal_at causes.DoVariable 2)
do_variable_logical_refused = refl

--       INTEGER L(3)
--       DO 10 L = 1, 3
--    10 CONTINUE
--       END
abbrev do_variable_array : List Labelled
do_variable_array =
    s 1 (Declare Integer (array "L" ((n 1, n 3) ∷ []) ∷ []))
    ∷ s 2 (Do (Some 10) (codes "L") (n 1) (n 3) (n 1))
    ∷ l 10 3 (Continue)
    ∷ s 4 (End)
    ∷ []

do_variable_array_refused : least (findings (fortran77 Plain) do_variable_array) ≡ Some (refusal_at causes.DoVariable 2)
do_variable_array_refused = refl

--       PARAMETER (L = 1)
--       DO 10 L = 1, 3
--    10 CONTINUE
--       END
abbrev do_variable_constant : List Labelled
do_variable_constant =
    s 1 (Constants (constant "L" (n 1) ∷ []))
    ∷ s 2 (Do (Some 10) (codes "L") (n 1) (n 3) (n 1))
    ∷ l 10 3 (Continue)
    ∷ s 4 (End)
    ∷ []

do_variable_constant_refused : least (findings (fortran77 Plain) do_variable_constant) ≡ Some (refusal_at causes.DoVariable 2)
do_variable_constant_refused = refl

--       DO 10 I = 1, 3
--    10 PRINT *, (I, I = 1, 2)
--       END
abbrev implied_do_variable_of_loop : List Labelled
implied_do_variable_of_loop =
    s 1 (Do (Some 10) (codes "I") (n 1) (n 3) (n 1))
    ∷ l 10 2 (Print (items (ImpliedDo (items (Single (v "I") ∷ [])) (codes "I") (n 1) (n 2) (n 1) ∷ [])))
    ∷ s 3 (End)
    ∷ []

implied_do_variable_of_loop_refused : least (findings (fortran77 Plain) implied_do_variable_of_loop) ≡ Some (refusal_at causes.DoVariable 2)
implied_do_variable_of_loop_refused = refl

--       DO 10 I = 1, 3
--    10 PRINT *, (I, J = 1, 2)
--       END
abbrev implied_do_variable_free : List Labelled
implied_do_variable_free =
    s 1 (Do (Some 10) (codes "I") (n 1) (n 3) (n 1))
    ∷ l 10 2 (Print (items (ImpliedDo (items (Single (v "I") ∷ [])) (codes "J") (n 1) (n 2) (n 1) ∷ [])))
    ∷ s 3 (End)
    ∷ []

implied_do_variable_free_read : findings (fortran77 Plain) implied_do_variable_free ≡ []
implied_do_variable_free_read = refl

--       READ *, (I, I = 1, 2)
--       END
abbrev implied_do_variable_read_in_list : List Labelled
implied_do_variable_read_in_list =
    s 1 (Read (items (ImpliedDo (items (Single (v "I") ∷ [])) (codes "I") (n 1) (n 2) (n 1) ∷ [])))
    ∷ s 2 (End)
    ∷ []

implied_do_variable_read_in_list_refused : least (findings (fortran77 Plain) implied_do_variable_read_in_list) ≡ Some (refusal_at causes.DoVariable 1)
implied_do_variable_read_in_list_refused = refl

--       PRINT *, (J, I = 1, I)
--       END
abbrev implied_do_variable_in_bounds : List Labelled
implied_do_variable_in_bounds =
    s 1 (Print (items (ImpliedDo (items (Single (v "J") ∷ [])) (codes "I") (n 1) (v "I") (n 1) ∷ [])))
    ∷ s 2 (End)
    ∷ []

implied_do_variable_in_bounds_read : findings (fortran77 Plain) implied_do_variable_in_bounds ≡ []
implied_do_variable_in_bounds_read = refl
