-- Two faults in one statement: the one of the earlier stage ends the run.
use Rattle.std.specs.Prelude.{[], ◌∷◌, None, pos}
use Rattle.tree.specs.Plain.{Binary, Apply, Constructor, Only, Section, no_loops, expressions, Assignment, Where}
use Rattle.tree.specs.Plain.{Program}
use Rattle.tree.specs.declared.ops.Op.TheVariants.{Add, Div, Eq, Gt}
use Rattle.tree.specs.declared.functions.Fun.TheVariants.{Max}
use Rattle.meaning_laws.specs.worked_programs.Words.{at, integer, integers, n, part, program, to, to_part, v}

-- stage 1, in the order mask, left side, right side
--
--     INTEGER :: A(3), N
--     WHERE (A(1:3:N) > 0) A(7:9) = 1
--     END
abbrev pub mask_before_left_side : Program
mask_before_left_side =
    program (integers "A" ((pos 1, pos 3) ∷ []) ∷ integer "N" ∷ [])
    (Where 2 None (Binary Gt (part "A" (Section (n 1) (n 3) (v "N") ∷ [])) (n 0)) (to_part "A" (Section (n 7)
    (n 9) (n 1) ∷ [])) (n 1)
    ∷ [])

-- left side before right side
--
--     INTEGER :: A(3), N
--     A(3:4) = A(1:2:N)
--     END
abbrev pub left_side_before_right_side : Program
left_side_before_right_side =
    program (integers "A" ((pos 1, pos 3) ∷ []) ∷ integer "N" ∷ [])
    (Assignment 2 None (to_part "A" (Section (n 3) (n 4) (n 1) ∷ [])) (part "A" (Section (n 1) (n 2)
    (v "N") ∷ []))
    ∷ [])

-- an element on the left is assigned as in FORTRAN 77
--
--     INTEGER :: A(3), N
--     A(4) = 1 / N
--     END
abbrev pub scalar_right_side_before_left_side : Program
scalar_right_side_before_left_side =
    program (integers "A" ((pos 1, pos 3) ∷ []) ∷ integer "N" ∷ [])
    (Assignment 2 None (to_part "A" (Only (n 4) ∷ [])) (Binary Div (n 1) (v "N"))
    ∷ [])

-- what is selected is known before it is compared
--
--     INTEGER :: A(3), N
--     A(1:2) = A(1:3:N)
--     END
abbrev pub step_before_shape : Program
step_before_shape =
    program (integers "A" ((pos 1, pos 3) ∷ []) ∷ integer "N" ∷ [])
    (Assignment 2 None (to_part "A" (Section (n 1) (n 2) (n 1) ∷ [])) (part "A" (Section (n 1) (n 3)
    (v "N") ∷ []))
    ∷ [])

-- Shape between them, before the right side is evaluated
--
--     INTEGER :: A(3), N
--     WHERE (A(1:2) == 0) A = A(1 / N)
--     END
abbrev pub mask_against_left_side : Program
mask_against_left_side =
    program (integers "A" ((pos 1, pos 3) ∷ []) ∷ integer "N" ∷ [])
    (Where 2 None (Binary Eq (part "A" (Section (n 1) (n 2) (n 1) ∷ [])) (n 0)) (to "A") (at "A" (Binary Div
    (n 1) (v "N") ∷ []))
    ∷ [])

-- Shape at the operator, before what comes later in the text
--
--     INTEGER :: A(3), N
--     A = A(1:2) + A + A(1 / N)
--     END
abbrev pub operands_against_one_another : Program
operands_against_one_another =
    program (integers "A" ((pos 1, pos 3) ∷ []) ∷ integer "N" ∷ [])
    (Assignment 2 None (to "A") (Binary Add (Binary Add (part "A" (Section (n 1) (n 2) (n 1) ∷ [])) (v "A"))
    (at "A" (Binary Div (n 1) (v "N") ∷ [])))
    ∷ [])

-- stage 1 before stage 2
--
--     INTEGER :: A(3), N
--     WHERE (A / N == 0) A = A(4)
--     END
abbrev pub right_side_in_whole_before_mask_values : Program
right_side_in_whole_before_mask_values =
    program (integers "A" ((pos 1, pos 3) ∷ []) ∷ integer "N" ∷ [])
    (Where 2 None (Binary Eq (Binary Div (v "A") (v "N")) (n 0)) (to "A") (at "A" (n 4 ∷ []))
    ∷ [])

-- right side shape before mask values
--
--     INTEGER :: A(3), N
--     WHERE (A / N == 0) A = A(1:2)
--     END
abbrev pub right_side_shape_before_mask_values : Program
right_side_shape_before_mask_values =
    program (integers "A" ((pos 1, pos 3) ∷ []) ∷ integer "N" ∷ [])
    (Where 2 None (Binary Eq (Binary Div (v "A") (v "N")) (n 0)) (to "A") (part "A" (Section (n 1) (n 2)
    (n 1) ∷ []))
    ∷ [])

-- stage 2 before stage 3
--
--     INTEGER :: A(3), N
--     WHERE (A / N == 0) A = A + 170141183460469231731687303715884105727 + 1
--     END
abbrev pub mask_values_before_operations : Program
mask_values_before_operations =
    program (integers "A" ((pos 1, pos 3) ∷ []) ∷ integer "N" ∷ [])
    (Where 2 None (Binary Eq (Binary Div (v "A") (v "N")) (n 0)) (to "A") (Binary Add (Binary Add (v "A")
    (n 170141183460469231731687303715884105727)) (n 1))
    ∷ [])

-- stage 3 before stage 4, for all elements
--
--     INTEGER :: A(2), B(2)
--     A = 2147483647
--     B = (/ 1, 0 /)
--     A = (A + 1) / B
--     END
abbrev pub operations_before_range : Program
operations_before_range =
    program (integers "A" ((pos 1, pos 2) ∷ []) ∷ integers "B" ((pos 1, pos 2) ∷ []) ∷ [])
    (Assignment 2 None (to "A") (n 2147483647)
    ∷ Assignment 3 None (to "B") (Constructor (expressions (n 1 ∷ n 0 ∷ [])) no_loops)
    ∷ Assignment 4 None (to "A") (Binary Div (Binary Add (v "A") (n 1)) (v "B"))
    ∷ [])

-- stage 4 before stage 5: no element is stored
--
--     INTEGER :: A(3)
--     A = (/ 1, 2, 2147483647 /)
--     A = A + 1
--     END
abbrev pub range_before_stores : Program
range_before_stores =
    program (integers "A" ((pos 1, pos 3) ∷ []) ∷ [])
    (Assignment 2 None (to "A") (Constructor (expressions (n 1 ∷ n 2 ∷ n 2147483647 ∷ [])) no_loops)
    ∷ Assignment 3 None (to "A") (Binary Add (v "A") (n 1))
    ∷ [])

-- Shape among two arguments comes before the next one is evaluated
--
--     INTEGER :: A(3), N
--     A = MAX(A, A(1:2), A(1 / N))
--     END
abbrev pub arguments_against_one_another : Program
arguments_against_one_another =
    program (integers "A" ((pos 1, pos 3) ∷ []) ∷ integer "N" ∷ [])
    (Assignment 2 None (to "A") (Apply Max (expressions (v "A" ∷ part "A" (Section (n 1) (n 2)
    (n 1) ∷ []) ∷ at "A" (Binary Div (n 1) (v "N") ∷ []) ∷ [])))
    ∷ [])
