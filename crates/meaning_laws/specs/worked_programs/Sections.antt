-- What sections select and store: strides of either sign, nothing at all, both sides of one array.
use Rattle.std.specs.Prelude.{[], ◌∷◌, None, pos}
use Rattle.tree.specs.Plain.{Unary, Binary, Constructor, Reshape, Only, Section, no_loops, expressions, Single}
use Rattle.tree.specs.Plain.{items, Assignment, Print, Program}
use Rattle.tree.specs.declared.ops.Op.TheVariants.{Add, Mul, Neg, Sub}
use Rattle.meaning_laws.specs.worked_programs.Words.{at, integer, integers, n, part, program, to, to_part, v}

-- the right side is read before any element is stored
--
--     INTEGER :: A(5)
--     A = (/ 1, 2, 3, 4, 5 /)
--     A(2:5) = A(1:4)
--     PRINT *, A
--     END
abbrev pub overlap_to_the_right : Program
overlap_to_the_right =
    program (integers "A" ((pos 1, pos 5) ∷ []) ∷ [])
    (Assignment 2 None (to "A") (Constructor (expressions (n 1 ∷ n 2 ∷ n 3 ∷ n 4 ∷ n 5 ∷ [])) no_loops)
    ∷ Assignment 3 None (to_part "A" (Section (n 2) (n 5) (n 1) ∷ [])) (part "A" (Section (n 1) (n 4) (n 1) ∷ []))
    ∷ Print 4 (items (Single (v "A") ∷ []))
    ∷ [])

-- overlap to the left
--
--     INTEGER :: A(5)
--     A = (/ 1, 2, 3, 4, 5 /)
--     A(1:4) = A(2:5) + A(1:4)
--     PRINT *, A
--     END
abbrev pub overlap_to_the_left : Program
overlap_to_the_left =
    program (integers "A" ((pos 1, pos 5) ∷ []) ∷ [])
    (Assignment 2 None (to "A") (Constructor (expressions (n 1 ∷ n 2 ∷ n 3 ∷ n 4 ∷ n 5 ∷ [])) no_loops)
    ∷ Assignment 3 None (to_part "A" (Section (n 1) (n 4) (n 1) ∷ [])) (Binary Add (part "A" (Section (n 2)
    (n 5) (n 1) ∷ [])) (part "A" (Section (n 1) (n 4) (n 1) ∷ [])))
    ∷ Print 4 (items (Single (v "A") ∷ []))
    ∷ [])

-- a negative stride over the same elements
--
--     INTEGER :: A(5)
--     A = (/ 1, 2, 3, 4, 5 /)
--     A(5:1:-1) = A
--     PRINT *, A, A(5:2:-3), A(1:5:3)
--     END
abbrev pub reversed_in_place : Program
reversed_in_place =
    program (integers "A" ((pos 1, pos 5) ∷ []) ∷ [])
    (Assignment 2 None (to "A") (Constructor (expressions (n 1 ∷ n 2 ∷ n 3 ∷ n 4 ∷ n 5 ∷ [])) no_loops)
    ∷ Assignment 3 None (to_part "A" (Section (n 5) (n 1) (Unary Neg (n 1)) ∷ [])) (v "A")
    ∷ Print 4 (items (Single (v "A") ∷ Single (part "A" (Section (n 5) (n 2) (Unary Neg (n 3)) ∷ [])) ∷ Single
    (part "A" (Section (n 1) (n 5) (n 3) ∷ [])) ∷ []))
    ∷ [])

-- strides on both sides
--
--     INTEGER :: A(9)
--     A = 5
--     A(1:9:4) = (/ 1, 2, 3 /)
--     A(8:2:-2) = A(1:7:4 - 1 - 1) * 10
--     PRINT *, A
--     END
abbrev pub strides_on_both_sides : Program
strides_on_both_sides =
    program (integers "A" ((pos 1, pos 9) ∷ []) ∷ [])
    (Assignment 2 None (to "A") (n 5)
    ∷ Assignment 3 None (to_part "A" (Section (n 1) (n 9) (n 4) ∷ [])) (Constructor (expressions
    (n 1 ∷ n 2 ∷ n 3 ∷ [])) no_loops)
    ∷ Assignment 4 None (to_part "A" (Section (n 8) (n 2) (Unary Neg (n 2)) ∷ [])) (Binary Mul (part "A"
    (Section (n 1) (n 7) (Binary Sub (Binary Sub (n 4) (n 1)) (n 1)) ∷ [])) (n 10))
    ∷ Print 5 (items (Single (v "A") ∷ []))
    ∷ [])

-- triplets that select nothing, whatever their bounds; a step for the statement alone
--
--     INTEGER :: A(3), N
--     A = 7
--     A(3:2) = 1
--     A(1:3:-1) = 2
--     A(9:4) = 3
--     N = 0
--     A(1:N) = A(5:4)
--     PRINT *, A
--     PRINT *, A(3:1)
--     END
abbrev pub no_elements : Program
no_elements =
    program (integers "A" ((pos 1, pos 3) ∷ []) ∷ integer "N" ∷ [])
    (Assignment 2 None (to "A") (n 7)
    ∷ Assignment 3 None (to_part "A" (Section (n 3) (n 2) (n 1) ∷ [])) (n 1)
    ∷ Assignment 4 None (to_part "A" (Section (n 1) (n 3) (Unary Neg (n 1)) ∷ [])) (n 2)
    ∷ Assignment 5 None (to_part "A" (Section (n 9) (n 4) (n 1) ∷ [])) (n 3)
    ∷ Assignment 6 None (to "N") (n 0)
    ∷ Assignment 7 None (to_part "A" (Section (n 1) (v "N") (n 1) ∷ [])) (part "A" (Section (n 5) (n 4)
    (n 1) ∷ []))
    ∷ Print 8 (items (Single (v "A") ∷ []))
    ∷ Print 9 (items (Single (part "A" (Section (n 3) (n 1) (n 1) ∷ [])) ∷ []))
    ∷ [])

-- the first dimension runs fastest
--
--     INTEGER :: M(2, 3)
--     M = RESHAPE((/ 1, 2, 3, 4, 5, 6 /), (/ 2, 3 /))
--     M(2, 3:1:-1) = M(1, 1:3)
--     M(1:2, 2) = M(2:1:-1, 2) + 100
--     PRINT *, M
--     PRINT *, M(1, 1:3), M(2, 1:3)
--     END
abbrev pub rows_and_columns : Program
rows_and_columns =
    program (integers "M" ((pos 1, pos 2) ∷ (pos 1, pos 3) ∷ []) ∷ [])
    (Assignment 2 None (to "M") (Reshape (Constructor (expressions
    (n 1 ∷ n 2 ∷ n 3 ∷ n 4 ∷ n 5 ∷ n 6 ∷ [])) no_loops) (expressions (n 2 ∷ n 3 ∷ [])))
    ∷ Assignment 3 None (to_part "M" (Only (n 2) ∷ Section (n 3) (n 1) (Unary Neg (n 1)) ∷ [])) (part "M" (Only
    (n 1) ∷ Section (n 1) (n 3) (n 1) ∷ []))
    ∷ Assignment 4 None (to_part "M" (Section (n 1) (n 2) (n 1) ∷ Only (n 2) ∷ [])) (Binary Add (part "M"
    (Section (n 2) (n 1) (Unary Neg (n 1)) ∷ Only (n 2) ∷ [])) (n 100))
    ∷ Print 5 (items (Single (v "M") ∷ []))
    ∷ Print 6 (items (Single (part "M" (Only (n 1) ∷ Section (n 1) (n 3) (n 1) ∷ [])) ∷ Single (part "M" (Only
    (n 2) ∷ Section (n 1) (n 3) (n 1) ∷ [])) ∷ []))
    ∷ [])

-- in a subscript of rank one the last store stays
--
--     INTEGER :: A(4), K(4)
--     K = (/ 3, 1, 3, 3 /)
--     A(K) = (/ 10, 20, 30, 40 /)
--     A(K(1:2)) = A(K(2:1:-1)) + 1
--     PRINT *, A
--     END
abbrev pub element_named_twice : Program
element_named_twice =
    program (integers "A" ((pos 1, pos 4) ∷ []) ∷ integers "K" ((pos 1, pos 4) ∷ []) ∷ [])
    (Assignment 2 None (to "K") (Constructor (expressions (n 3 ∷ n 1 ∷ n 3 ∷ n 3 ∷ [])) no_loops)
    ∷ Assignment 3 None (to_part "A" (Only (v "K") ∷ [])) (Constructor (expressions
    (n 10 ∷ n 20 ∷ n 30 ∷ n 40 ∷ [])) no_loops)
    ∷ Assignment 4 None (to_part "A" (Only (part "K" (Section (n 1) (n 2) (n 1) ∷ [])) ∷ [])) (Binary Add
    (at "A" (part "K" (Section (n 2) (n 1) (Unary Neg (n 1)) ∷ []) ∷ [])) (n 1))
    ∷ Print 5 (items (Single (v "A") ∷ []))
    ∷ [])
