-- SPREAD, TRANSPOSE, RESHAPE, and the reductions.
use Rattle.std.specs.Prelude.{[], ◌∷◌, None, pos}
use Rattle.tree.specs.Plain.{Unary, Binary, Constructor, Spread, Transpose, Reshape, Reduce, Section, no_loops}
use Rattle.tree.specs.Plain.{expressions, Single, items, Assignment, Print, Program}
use Rattle.tree.specs.declared.ops.Op.TheVariants.{Add, Mul, Neg, Sub}
use Rattle.tree.specs.declared.functions.Red.TheVariants.{MaxVal, MinVal, Sum}
use Rattle.meaning_laws.specs.worked_programs.Words.{integers, n, part, program, to, v}

-- spread twice
--
--     INTEGER :: C(2)
--     C = (/ 1, 2 /)
--     PRINT *, SPREAD(SPREAD(C, 2, 3), 1, 2)
--     PRINT *, SPREAD(SPREAD(C, 1, 2), 2, 3)
--     END
abbrev pub spread_twice : Program
spread_twice =
    program (integers "C" ((pos 1, pos 2) ∷ []) ∷ [])
    (Assignment 2 None (to "C") (Constructor (expressions (n 1 ∷ n 2 ∷ [])) no_loops)
    ∷ Print 3 (items (Single (Spread (Spread (v "C") 2 (n 3)) 1 (n 2)) ∷ []))
    ∷ Print 4 (items (Single (Spread (Spread (v "C") 1 (n 2)) 2 (n 3)) ∷ []))
    ∷ [])

-- rows and columns of one matrix
--
--     INTEGER :: M(2, 3), R(3), C(2)
--     R = (/ 1, 2, 3 /)
--     C = (/ 10, 20 /)
--     M = SPREAD(C, 2, 3) + SPREAD(R, 1, 2)
--     PRINT *, M
--     END
abbrev pub spread_beside_an_array : Program
spread_beside_an_array =
    program (integers "C" ((pos 1, pos 2) ∷ []) ∷ integers "M" ((pos 1, pos 2) ∷ (pos 1, pos 3) ∷ []) ∷ integers "R"
    ((pos 1, pos 3) ∷ []) ∷ [])
    (Assignment 2 None (to "R") (Constructor (expressions (n 1 ∷ n 2 ∷ n 3 ∷ [])) no_loops)
    ∷ Assignment 3 None (to "C") (Constructor (expressions (n 10 ∷ n 20 ∷ [])) no_loops)
    ∷ Assignment 4 None (to "M") (Binary Add (Spread (v "C") 2 (n 3)) (Spread (v "R") 1 (n 2)))
    ∷ Print 5 (items (Single (v "M") ∷ []))
    ∷ [])

-- a negative number of copies is none
--
--     INTEGER :: C(2)
--     PRINT *, SUM(SPREAD(C + 1, 1, -4)), SUM(SPREAD(C + 1, 1, 4))
--     END
abbrev pub spread_to_nothing : Program
spread_to_nothing =
    program (integers "C" ((pos 1, pos 2) ∷ []) ∷ [])
    (Print 2 (items (Single (Reduce Sum (Spread (Binary Add (v "C") (n 1)) 1 (Unary Neg (n 4)))) ∷ Single
    (Reduce Sum (Spread (Binary Add (v "C") (n 1)) 1 (n 4))) ∷ []))
    ∷ [])

-- transposed
--
--     INTEGER :: M(2, 3), T(3, 2)
--     M = RESHAPE((/ 1, 2, 3, 4, 5, 6 /), (/ 2, 3 /))
--     T = TRANSPOSE(M) * 2
--     PRINT *, T
--     PRINT *, TRANSPOSE(T) - M
--     END
abbrev pub transposed : Program
transposed =
    program (integers "M" ((pos 1, pos 2) ∷ (pos 1, pos 3) ∷ []) ∷ integers "T" ((pos 1, pos 3) ∷
    (pos 1, pos 2) ∷ []) ∷ [])
    (Assignment 2 None (to "M") (Reshape (Constructor (expressions
    (n 1 ∷ n 2 ∷ n 3 ∷ n 4 ∷ n 5 ∷ n 6 ∷ [])) no_loops) (expressions (n 2 ∷ n 3 ∷ [])))
    ∷ Assignment 3 None (to "T") (Binary Mul (Transpose (v "M")) (n 2))
    ∷ Print 4 (items (Single (v "T") ∷ []))
    ∷ Print 5 (items (Single (Binary Sub (Transpose (v "T")) (v "M")) ∷ []))
    ∷ [])

-- reshaped with too few
--
--     INTEGER :: A(3)
--     PRINT *, RESHAPE(A, (/ 3, 1 /))
--     PRINT *, RESHAPE(A, (/ 2, 2 /))
--     END
abbrev pub reshaped_with_too_few : Program
reshaped_with_too_few =
    program (integers "A" ((pos 1, pos 3) ∷ []) ∷ [])
    (Print 2 (items (Single (Reshape (v "A") (expressions (n 3 ∷ n 1 ∷ []))) ∷ []))
    ∷ Print 3 (items (Single (Reshape (v "A") (expressions (n 2 ∷ n 2 ∷ []))) ∷ []))
    ∷ [])

-- 0, the least and the greatest INTEGER
--
--     INTEGER :: A(3)
--     PRINT *, SUM(A(3:2)), MAXVAL(A(3:2)), MINVAL(A(3:2))
--     END
abbrev pub reductions_of_nothing : Program
reductions_of_nothing =
    program (integers "A" ((pos 1, pos 3) ∷ []) ∷ [])
    (Print 2 (items (Single (Reduce Sum (part "A" (Section (n 3) (n 2) (n 1) ∷ []))) ∷ Single (Reduce MaxVal
    (part "A" (Section (n 3) (n 2) (n 1) ∷ []))) ∷ Single (Reduce MinVal (part "A" (Section (n 3) (n 2)
    (n 1) ∷ []))) ∷ []))
    ∷ [])

-- each partial sum is held against 128 bits
--
--     PRINT *, SUM((/ -1, 170141183460469231731687303715884105727, 1 /)) - 170141183460469231731687303715884105727
--     PRINT *, SUM((/ 170141183460469231731687303715884105727, 1, -1 /))
--     END
abbrev pub partial_sum_past_128_bits : Program
partial_sum_past_128_bits =
    program []
    (Print 1 (items (Single (Binary Sub (Reduce Sum (Constructor (expressions (Unary Neg
    (n 1) ∷ n 170141183460469231731687303715884105727 ∷ n 1 ∷ [])) no_loops))
    (n 170141183460469231731687303715884105727)) ∷ []))
    ∷ Print 2 (items (Single (Reduce Sum (Constructor (expressions
    (n 170141183460469231731687303715884105727 ∷ n 1 ∷ Unary Neg (n 1) ∷ [])) no_loops)) ∷ []))
    ∷ [])
