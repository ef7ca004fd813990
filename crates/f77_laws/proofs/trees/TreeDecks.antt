-- Worked decks on the tree that statements form. Above each text stands the deck that it is of.
use Rattle.std.proofs.Common.{◌≡◌, refl, List, [], ◌∷◌, None, Some, pos, negsuc}
use lib.Chars.{codes}
use Rattle.tree.specs.Plain.{Unary, Binary, Apply, Single, Constant, ImpliedDo, items, expressions, Assignment, GoTo, no_arms, arm, block, no_statements, Given, Program}
use Rattle.tree.specs.Plain as tree
use Rattle.tree.specs.declared.ops.Op.TheVariants.{Div, Neg, Add, Sub, Eq, Gt, Not}
use Rattle.tree.specs.declared.functions.Fun.TheVariants.{Abs, Mod, Max, Min}
use Rattle.tree.specs.declared.ops.Kind.TheVariants.{Integer, Logical}
use Rattle.meaning.specs.Dialect.{fortran77}
use Rattle.tree.specs.declared.width.Width.TheVariants.{Plain}
use Rattle.f77_grammar.specs.Statement77.{Labelled, Declare, Constants, Assign, Go, Test, If, ElseIf, Else, EndIf, Do, EndDo, Continue, Stop, Read, Print, End}
use Rattle.f77_grammar.specs.Statement77 as text
use Rattle.f77_grammar.specs.program.EndDo.{with_loop_labels}
use Rattle.f77_grammar.specs.program.Program77.{findings}
use Rattle.f77_laws.specs.trees.Steps.{tree_of}
use Rattle.meaning.proofs.DeckWords.{n, v, at, to, to_element}
use Rattle.f77_grammar.proofs.programs.Words.{s, l, scalar, array, constant}

--       INTEGER DO10I
--       DO10I=1
--       DO 10 I = 1, 3
--    10 DO10I = DO10I + I
--       PRINT *, DO10I, I
--       END
abbrev blanks_have_no_meaning : List Labelled
blanks_have_no_meaning =
    s 1 (Declare Integer (scalar "DO10I" ∷ []))
    ∷ s 2 (Assign (to "DO10I") (n 1))
    ∷ s 3 (Do (Some 10) (codes "I") (n 1) (n 3) (n 1))
    ∷ l 10 4 (Assign (to "DO10I") (Binary Add (v "DO10I") (v "I")))
    ∷ s 5 (Print (items (Single (v "DO10I") ∷ Single (v "I") ∷ [])))
    ∷ s 6 (End)
    ∷ []

abbrev blanks_have_no_meaning_tree : Program
blanks_have_no_meaning_tree = record {
  name = None;
  declarations = record { name = codes "DO10I"; kind = Integer; extent = Given ([]) } ∷ record { name = codes "I"; kind = Integer; extent = Given ([]) } ∷ [];
  body = block (Assignment 2 None (to "DO10I") (n 1) ∷ tree.Do 3 (codes "I") (n 1) (n 3) (n 1) (block (Assignment 4 None (to "DO10I") (Binary Add (v "DO10I") (v "I")) ∷ [])) ∷ tree.Print 5 (items (Single (v "DO10I") ∷ Single (v "I") ∷ [])) ∷ []);
}

blanks_have_no_meaning_sound : findings (fortran77 Plain) blanks_have_no_meaning ≡ []
blanks_have_no_meaning_sound = refl

blanks_have_no_meaning_formed : tree_of (fortran77 Plain) blanks_have_no_meaning ≡ blanks_have_no_meaning_tree
blanks_have_no_meaning_formed = refl

--       INTEGER A(5)
--       A(3) = 7
--       DO 20 I = 1, 5
--       IF (A(I) .EQ. 7) GO TO 30
--    20 CONTINUE
--    30 PRINT *, I
--       END
abbrev loop_left_by_go_to : List Labelled
loop_left_by_go_to =
    s 1 (Declare Integer (array "A" ((n 1, n 5) ∷ []) ∷ []))
    ∷ s 2 (Assign (to_element "A" (n 3 ∷ [])) (n 7))
    ∷ s 3 (Do (Some 20) (codes "I") (n 1) (n 5) (n 1))
    ∷ s 4 (Test (Binary Eq (at "A" (v "I" ∷ [])) (n 7)) (Go 30))
    ∷ l 20 5 (Continue)
    ∷ l 30 6 (Print (items (Single (v "I") ∷ [])))
    ∷ s 7 (End)
    ∷ []

abbrev loop_left_by_go_to_tree : Program
loop_left_by_go_to_tree = record {
  name = None;
  declarations = record { name = codes "A"; kind = Integer; extent = Given ((pos 1, pos 5) ∷ []) } ∷ record { name = codes "I"; kind = Integer; extent = Given ([]) } ∷ [];
  body = block (Assignment 2 None (to_element "A" (n 3 ∷ [])) (n 7) ∷ tree.Do 3 (codes "I") (n 1) (n 5) (n 1) (block (tree.If 4 (arm (Binary Eq (at "A" (v "I" ∷ [])) (n 7)) (block (GoTo 4 30 ∷ [])) (no_arms)) (no_statements) ∷ [])) ∷ tree.Label 30 ∷ tree.Print 6 (items (Single (v "I") ∷ [])) ∷ []);
}

loop_left_by_go_to_sound : findings (fortran77 Plain) loop_left_by_go_to ≡ []
loop_left_by_go_to_sound = refl

loop_left_by_go_to_formed : tree_of (fortran77 Plain) loop_left_by_go_to ≡ loop_left_by_go_to_tree
loop_left_by_go_to_formed = refl

--       PROGRAM RELAX
--       PARAMETER (N = 4)
--       INTEGER U(0:N,0:N), V(0:N,0:N)
--       DO 10 I = 0, N
--    10 U(I,0) = 64
--       DO 30 ITER = 1, 2
--       DO 20 J = 1, N - 1
--       DO 20 I = 1, N - 1
--    20 V(I,J) = (U(I-1,J) + U(I+1,J) + U(I,J-1) + U(I,J+1)) / 4
--       DO 30 J = 1, N - 1
--       DO 30 I = 1, N - 1
--    30 U(I,J) = V(I,J)
--       PRINT *, (U(I,1), I = 0, N)
--       END
abbrev realistic_sweep : List Labelled
realistic_sweep =
    s 1 (text.Program (codes "RELAX"))
    ∷ s 2 (Constants (constant "N" (n 4) ∷ []))
    ∷ s 3 (Declare Integer (array "U" ((n 0, v "N") ∷ (n 0, v "N") ∷ []) ∷ array "V" ((n 0, v "N") ∷ (n 0, v "N") ∷ []) ∷ []))
    ∷ s 4 (Do (Some 10) (codes "I") (n 0) (v "N") (n 1))
    ∷ l 10 5 (Assign (to_element "U" (v "I" ∷ n 0 ∷ [])) (n 64))
    ∷ s 6 (Do (Some 30) (codes "ITER") (n 1) (n 2) (n 1))
    ∷ s 7 (Do (Some 20) (codes "J") (n 1) (Binary Sub (v "N") (n 1)) (n 1))
    ∷ s 8 (Do (Some 20) (codes "I") (n 1) (Binary Sub (v "N") (n 1)) (n 1))
    ∷ l 20 9 (Assign (to_element "V" (v "I" ∷ v "J" ∷ [])) (Binary Div (Binary Add (Binary Add (Binary Add (at "U" (Binary Sub (v "I") (n 1) ∷ v "J" ∷ [])) (at "U" (Binary Add (v "I") (n 1) ∷ v "J" ∷ []))) (at "U" (v "I" ∷ Binary Sub (v "J") (n 1) ∷ []))) (at "U" (v "I" ∷ Binary Add (v "J") (n 1) ∷ []))) (n 4)))
    ∷ s 10 (Do (Some 30) (codes "J") (n 1) (Binary Sub (v "N") (n 1)) (n 1))
    ∷ s 11 (Do (Some 30) (codes "I") (n 1) (Binary Sub (v "N") (n 1)) (n 1))
    ∷ l 30 12 (Assign (to_element "U" (v "I" ∷ v "J" ∷ [])) (at "V" (v "I" ∷ v "J" ∷ [])))
    ∷ s 13 (Print (items (ImpliedDo (items (Single (at "U" (v "I" ∷ n 1 ∷ [])) ∷ [])) (codes "I") (n 0) (v "N") (n 1) ∷ [])))
    ∷ s 14 (End)
    ∷ []

abbrev realistic_sweep_tree : Program
realistic_sweep_tree = record {
  name = Some (codes "RELAX");
  declarations = record { name = codes "I"; kind = Integer; extent = Given ([]) } ∷ record { name = codes "ITER"; kind = Integer; extent = Given ([]) } ∷ record { name = codes "J"; kind = Integer; extent = Given ([]) } ∷ record { name = codes "U"; kind = Integer; extent = Given ((pos 0, pos 4) ∷ (pos 0, pos 4) ∷ []) } ∷ record { name = codes "V"; kind = Integer; extent = Given ((pos 0, pos 4) ∷ (pos 0, pos 4) ∷ []) } ∷ [];
  body = block (tree.Do 4 (codes "I") (n 0) (n 4) (n 1) (block (Assignment 5 None (to_element "U" (v "I" ∷ n 0 ∷ [])) (n 64) ∷ [])) ∷ tree.Do 6 (codes "ITER") (n 1) (n 2) (n 1) (block (tree.Do 7 (codes "J") (n 1) (Binary Sub (n 4) (n 1)) (n 1) (block (tree.Do 8 (codes "I") (n 1) (Binary Sub (n 4) (n 1)) (n 1) (block (Assignment 9 None (to_element "V" (v "I" ∷ v "J" ∷ [])) (Binary Div (Binary Add (Binary Add (Binary Add (at "U" (Binary Sub (v "I") (n 1) ∷ v "J" ∷ [])) (at "U" (Binary Add (v "I") (n 1) ∷ v "J" ∷ []))) (at "U" (v "I" ∷ Binary Sub (v "J") (n 1) ∷ []))) (at "U" (v "I" ∷ Binary Add (v "J") (n 1) ∷ []))) (n 4)) ∷ [])) ∷ [])) ∷ tree.Do 10 (codes "J") (n 1) (Binary Sub (n 4) (n 1)) (n 1) (block (tree.Do 11 (codes "I") (n 1) (Binary Sub (n 4) (n 1)) (n 1) (block (Assignment 12 None (to_element "U" (v "I" ∷ v "J" ∷ [])) (at "V" (v "I" ∷ v "J" ∷ [])) ∷ [])) ∷ [])) ∷ [])) ∷ tree.Print 13 (items (ImpliedDo (items (Single (at "U" (v "I" ∷ n 1 ∷ [])) ∷ [])) (codes "I") (n 0) (n 4) (n 1) ∷ [])) ∷ []);
}

realistic_sweep_sound : findings (fortran77 Plain) realistic_sweep ≡ []
realistic_sweep_sound = refl

realistic_sweep_formed : tree_of (fortran77 Plain) realistic_sweep ≡ realistic_sweep_tree
realistic_sweep_formed = refl

--       LOGICAL L
--       PARAMETER (M = -3, N = M + 1)
--       INTEGER A(M:3)
--       READ *, L, (A(I), I = 1, 3)
--       IF (L) THEN
--       GO TO 20
--       ELSE IF (.NOT. L) THEN
--       A(1) = N
--       ELSE
--       A(1) = MAX0(1, N, 2) + IABS(N)
--       END IF
--       DO 10 J = 1, 2
--       DO 10 K = 1, 2
--       IF (K .EQ. 1) GO TO 10
--       A(K) = MOD(J, 2)
--    10 CONTINUE
--       IF (A(2) .GT. 0) STOP
--    20 PRINT *, 'A', A
--    30 END
abbrev arms_and_labels : List Labelled
arms_and_labels =
    s 1 (Declare Logical (scalar "L" ∷ []))
    ∷ s 2 (Constants (constant "M" (Unary Neg (n 3)) ∷ constant "N" (Binary Add (v "M") (n 1)) ∷ []))
    ∷ s 3 (Declare Integer (array "A" ((v "M", n 3) ∷ []) ∷ []))
    ∷ s 4 (Read (items (Single (v "L") ∷ ImpliedDo (items (Single (at "A" (v "I" ∷ [])) ∷ [])) (codes "I") (n 1) (n 3) (n 1) ∷ [])))
    ∷ s 5 (If (v "L"))
    ∷ s 6 (Go 20)
    ∷ s 7 (ElseIf (Unary Not (v "L")))
    ∷ s 8 (Assign (to_element "A" (n 1 ∷ [])) (v "N"))
    ∷ s 9 (Else)
    ∷ s 10 (Assign (to_element "A" (n 1 ∷ [])) (Binary Add (at "MAX0" (n 1 ∷ v "N" ∷ n 2 ∷ [])) (at "IABS" (v "N" ∷ []))))
    ∷ s 11 (EndIf)
    ∷ s 12 (Do (Some 10) (codes "J") (n 1) (n 2) (n 1))
    ∷ s 13 (Do (Some 10) (codes "K") (n 1) (n 2) (n 1))
    ∷ s 14 (Test (Binary Eq (v "K") (n 1)) (Go 10))
    ∷ s 15 (Assign (to_element "A" (v "K" ∷ [])) (at "MOD" (v "J" ∷ n 2 ∷ [])))
    ∷ l 10 16 (Continue)
    ∷ s 17 (Test (Binary Gt (at "A" (n 2 ∷ [])) (n 0)) (Stop))
    ∷ l 20 18 (Print (items (Constant (codes "A") ∷ Single (v "A") ∷ [])))
    ∷ l 30 19 (End)
    ∷ []

abbrev arms_and_labels_tree : Program
arms_and_labels_tree = record {
  name = None;
  declarations = record { name = codes "A"; kind = Integer; extent = Given ((negsuc 2, pos 3) ∷ []) } ∷ record { name = codes "I"; kind = Integer; extent = Given ([]) } ∷ record { name = codes "J"; kind = Integer; extent = Given ([]) } ∷ record { name = codes "K"; kind = Integer; extent = Given ([]) } ∷ record { name = codes "L"; kind = Logical; extent = Given ([]) } ∷ [];
  body = block (tree.Read 4 (items (Single (v "L") ∷ ImpliedDo (items (Single (at "A" (v "I" ∷ [])) ∷ [])) (codes "I") (n 1) (n 3) (n 1) ∷ [])) ∷ tree.If 5 (arm (v "L") (block (GoTo 6 20 ∷ [])) (arm (Unary Not (v "L")) (block (Assignment 8 None (to_element "A" (n 1 ∷ [])) (Unary Neg (n 2)) ∷ [])) (no_arms))) (block (Assignment 10 None (to_element "A" (n 1 ∷ [])) (Binary Add (Apply Max (expressions (n 1 ∷ Unary Neg (n 2) ∷ n 2 ∷ []))) (Apply Abs (expressions (Unary Neg (n 2) ∷ [])))) ∷ [])) ∷ tree.Do 12 (codes "J") (n 1) (n 2) (n 1) (block (tree.Do 13 (codes "K") (n 1) (n 2) (n 1) (block (tree.If 14 (arm (Binary Eq (v "K") (n 1)) (block (GoTo 14 10 ∷ [])) (no_arms)) (no_statements) ∷ Assignment 15 None (to_element "A" (v "K" ∷ [])) (Apply Mod (expressions (v "J" ∷ n 2 ∷ []))) ∷ tree.Label 10 ∷ [])) ∷ [])) ∷ tree.If 17 (arm (Binary Gt (at "A" (n 2 ∷ [])) (n 0)) (block (tree.Stop 17 ∷ [])) (no_arms)) (no_statements) ∷ tree.Label 20 ∷ tree.Print 18 (items (Constant (codes "A") ∷ Single (v "A") ∷ [])) ∷ []);
}

arms_and_labels_sound : findings (fortran77 Plain) arms_and_labels ≡ []
arms_and_labels_sound = refl

arms_and_labels_formed : tree_of (fortran77 Plain) arms_and_labels ≡ arms_and_labels_tree
arms_and_labels_formed = refl

--       MAX = 1
--       I = MIN(MAX, 2)
--       END
abbrev function_name_as_variable : List Labelled
function_name_as_variable =
    s 1 (Assign (to "MAX") (n 1))
    ∷ s 2 (Assign (to "I") (at "MIN" (v "MAX" ∷ n 2 ∷ [])))
    ∷ s 3 (End)
    ∷ []

abbrev function_name_as_variable_tree : Program
function_name_as_variable_tree = record {
  name = None;
  declarations = record { name = codes "I"; kind = Integer; extent = Given ([]) } ∷ record { name = codes "MAX"; kind = Integer; extent = Given ([]) } ∷ [];
  body = block (Assignment 1 None (to "MAX") (n 1) ∷ Assignment 2 None (to "I") (Apply Min (expressions (v "MAX" ∷ n 2 ∷ []))) ∷ []);
}

function_name_as_variable_sound : findings (fortran77 Plain) function_name_as_variable ≡ []
function_name_as_variable_sound = refl

function_name_as_variable_formed : tree_of (fortran77 Plain) function_name_as_variable ≡ function_name_as_variable_tree
function_name_as_variable_formed = refl

--       K = 0
--       DO I = 1, 3
--       DO 10 J = 1, 2
--       IF (J .EQ. I) GO TO 10
--       K = K + J
--    10 END DO
--       END DO
--       PRINT *, K
--       END
abbrev loops_ended_by_end_do : List Labelled
loops_ended_by_end_do =
    s 1 (Assign (to "K") (n 0))
    ∷ s 2 (Do None (codes "I") (n 1) (n 3) (n 1))
    ∷ s 3 (Do (Some 10) (codes "J") (n 1) (n 2) (n 1))
    ∷ s 4 (Test (Binary Eq (v "J") (v "I")) (Go 10))
    ∷ s 5 (Assign (to "K") (Binary Add (v "K") (v "J")))
    ∷ l 10 6 (EndDo)
    ∷ s 7 (EndDo)
    ∷ s 8 (Print (items (Single (v "K") ∷ [])))
    ∷ s 9 (End)
    ∷ []

abbrev loops_ended_by_end_do_tree : Program
loops_ended_by_end_do_tree = record {
  name = None;
  declarations = record { name = codes "I"; kind = Integer; extent = Given ([]) } ∷ record { name = codes "J"; kind = Integer; extent = Given ([]) } ∷ record { name = codes "K"; kind = Integer; extent = Given ([]) } ∷ [];
  body = block (Assignment 1 None (to "K") (n 0) ∷ tree.Do 2 (codes "I") (n 1) (n 3) (n 1) (block (tree.Do 3 (codes "J") (n 1) (n 2) (n 1) (block (tree.If 4 (arm (Binary Eq (v "J") (v "I")) (block (GoTo 4 10 ∷ [])) (no_arms)) (no_statements) ∷ Assignment 5 None (to "K") (Binary Add (v "K") (v "J")) ∷ tree.Label 10 ∷ [])) ∷ [])) ∷ tree.Print 8 (items (Single (v "K") ∷ [])) ∷ []);
}

loops_ended_by_end_do_sound : findings (fortran77 Plain) (with_loop_labels loops_ended_by_end_do) ≡ []
loops_ended_by_end_do_sound = refl

loops_ended_by_end_do_formed : tree_of (fortran77 Plain) (with_loop_labels loops_ended_by_end_do) ≡ loops_ended_by_end_do_tree
loops_ended_by_end_do_formed = refl
