-- Constructors with loops, of which the first one is the innermost.
use Rattle.std.specs.Prelude.{[], ◌∷◌, None}
use Rattle.tree.specs.Plain.{Binary, Constructor, Reduce, no_loops, loop, expressions, Single, items, Assignment}
use Rattle.tree.specs.Plain.{Print, Program}
use Rattle.tree.specs.declared.ops.Op.TheVariants.{Add, Div, Mul, Sub}
use Rattle.tree.specs.declared.functions.Red.TheVariants.{Sum}
use Rattle.meaning_laws.specs.worked_programs.Words.{integer, n, name, program, to, v}

-- the outer variable bounds the inner loop
--
--     INTEGER :: I, J
--     I = 7
--     PRINT *, (/ ((10 * J + I, I = J, 3), J = 1, 3) /)
--     PRINT *, I, J
--     END
abbrev pub two_loops : Program
two_loops =
    program (integer "I" ∷ integer "J" ∷ [])
    (Assignment 2 None (to "I") (n 7)
    ∷ Print 3 (items (Single (Constructor (expressions (Binary Add (Binary Mul (n 10) (v "J")) (v "I") ∷ []))
    (loop (name "I") (v "J") (n 3) (loop (name "J") (n 1) (n 3) no_loops))) ∷ []))
    ∷ Print 4 (items (Single (v "I") ∷ Single (v "J") ∷ []))
    ∷ [])

-- two loops of one name
--
--     INTEGER :: I
--     PRINT *, (/ ((I, I = 1, I), I = 1, 3) /)
--     END
abbrev pub inner_hides_outer : Program
inner_hides_outer =
    program (integer "I" ∷ [])
    (Print 2 (items (Single (Constructor (expressions (v "I" ∷ [])) (loop (name "I") (n 1) (v "I") (loop
    (name "I") (n 1) (n 3) no_loops))) ∷ []))
    ∷ [])

-- loop without turns
--
--     INTEGER :: I
--     PRINT *, SUM((/ (1 / I, I = 1, 0) /))
--     PRINT *, (/ (1 / (I - 2), I = 1, 3) /)
--     END
abbrev pub loop_without_turns : Program
loop_without_turns =
    program (integer "I" ∷ [])
    (Print 2 (items (Single (Reduce Sum (Constructor (expressions (Binary Div (n 1) (v "I") ∷ [])) (loop
    (name "I") (n 1) (n 0) no_loops))) ∷ []))
    ∷ Print 3 (items (Single (Constructor (expressions (Binary Div (n 1) (Binary Sub (v "I") (n 2)) ∷ [])) (loop
    (name "I") (n 1) (n 3) no_loops)) ∷ []))
    ∷ [])
