-- WHERE: what is performed where the mask is true, and what is performed anyhow.
use Rattle.std.specs.Prelude.{[], ◌∷◌, None, pos}
use Rattle.tree.specs.Plain.{Binary, Constructor, Reduce, Section, no_loops, expressions, Single, items}
use Rattle.tree.specs.Plain.{Assignment, Where, Print, Read, Program}
use Rattle.tree.specs.declared.ops.Op.TheVariants.{Div, Eq, Gt, Ne}
use Rattle.tree.specs.declared.functions.Red.TheVariants.{Sum}
use Rattle.meaning_laws.specs.worked_programs.Words.{at, integer, integers, n, part, program, to, to_part, v}

-- no division where the divisor is 0
--
--     INTEGER :: A(4), B(4)
--     READ *, B
--     A = 1
--     WHERE (B /= 0) A = 100 / B
--     PRINT *, A
--     WHERE (B == 0) B = 3
--     A = 100 / B
--     PRINT *, A
--     END
abbrev pub guarded_division : Program
guarded_division =
    program (integers "A" ((pos 1, pos 4) ∷ []) ∷ integers "B" ((pos 1, pos 4) ∷ []) ∷ [])
    (Read 2 (items (Single (v "B") ∷ []))
    ∷ Assignment 3 None (to "A") (n 1)
    ∷ Where 4 None (Binary Ne (v "B") (n 0)) (to "A") (Binary Div (n 100) (v "B"))
    ∷ Print 5 (items (Single (v "A") ∷ []))
    ∷ Where 6 None (Binary Eq (v "B") (n 0)) (to "B") (n 3)
    ∷ Assignment 7 None (to "A") (Binary Div (n 100) (v "B"))
    ∷ Print 8 (items (Single (v "A") ∷ []))
    ∷ [])

-- an operation on scalars is performed at positions of the mask alone
--
--     INTEGER :: A(3), N
--     WHERE (A > 0) A = 1 / N
--     PRINT *, A
--     END
abbrev pub scalars_under_a_false_mask : Program
scalars_under_a_false_mask =
    program (integers "A" ((pos 1, pos 3) ∷ []) ∷ integer "N" ∷ [])
    (Where 2 None (Binary Gt (v "A") (n 0)) (to "A") (Binary Div (n 1) (v "N"))
    ∷ Print 3 (items (Single (v "A") ∷ []))
    ∷ [])

-- scalars under a true mask
--
--     INTEGER :: A(3), N
--     WHERE (A == 0) A = 1 / N
--     PRINT *, A
--     END
abbrev pub scalars_under_a_true_mask : Program
scalars_under_a_true_mask =
    program (integers "A" ((pos 1, pos 3) ∷ []) ∷ integer "N" ∷ [])
    (Where 2 None (Binary Eq (v "A") (n 0)) (to "A") (Binary Div (n 1) (v "N"))
    ∷ Print 3 (items (Single (v "A") ∷ []))
    ∷ [])

-- a scalar subscript is evaluated anyhow
--
--     INTEGER :: A(3), N
--     WHERE (A > 0) A = A(1 / N)
--     END
abbrev pub subscript_under_a_false_mask : Program
subscript_under_a_false_mask =
    program (integers "A" ((pos 1, pos 3) ∷ []) ∷ integer "N" ∷ [])
    (Where 2 None (Binary Gt (v "A") (n 0)) (to "A") (at "A" (Binary Div (n 1) (v "N") ∷ []))
    ∷ [])

-- and so is an array function
--
--     INTEGER :: A(3), N
--     WHERE (A > 0) A = SUM(A / N)
--     END
abbrev pub sum_under_a_false_mask : Program
sum_under_a_false_mask =
    program (integers "A" ((pos 1, pos 3) ∷ []) ∷ integer "N" ∷ [])
    (Where 2 None (Binary Gt (v "A") (n 0)) (to "A") (Reduce Sum (Binary Div (v "A") (v "N")))
    ∷ [])

-- the mask isn't changed by what is stored
--
--     INTEGER :: A(4)
--     A = (/ 1, 0, 0, 0 /)
--     WHERE (A(1:3) == 1) A(2:4) = 1
--     PRINT *, A
--     END
abbrev pub mask_is_known_first : Program
mask_is_known_first =
    program (integers "A" ((pos 1, pos 4) ∷ []) ∷ [])
    (Assignment 2 None (to "A") (Constructor (expressions (n 1 ∷ n 0 ∷ n 0 ∷ n 0 ∷ [])) no_loops)
    ∷ Where 3 None (Binary Eq (part "A" (Section (n 1) (n 3) (n 1) ∷ [])) (n 1)) (to_part "A" (Section (n 2)
    (n 4) (n 1) ∷ [])) (n 1)
    ∷ Print 4 (items (Single (v "A") ∷ []))
    ∷ [])
