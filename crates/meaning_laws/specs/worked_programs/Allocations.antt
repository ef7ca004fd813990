-- ALLOCATE and DEALLOCATE.
use Rattle.std.specs.Prelude.{[], ◌∷◌, None}
use Rattle.tree.specs.Plain.{Unary, Binary, Reduce, Only, expressions, Single, items, Assignment, Print}
use Rattle.tree.specs.Plain.{Allocate, Deallocate, Program}
use Rattle.tree.specs.declared.ops.Op.TheVariants.{Div, Neg}
use Rattle.tree.specs.declared.functions.Red.TheVariants.{Sum}
use Rattle.meaning_laws.specs.worked_programs.Words.{integer, later, n, name, program, to, to_part, v}

-- allocated twice
--
--     INTEGER, ALLOCATABLE :: A(:)
--     ALLOCATE (A(1:2))
--     A = 4
--     PRINT *, A
--     ALLOCATE (A(1:2))
--     END
abbrev pub allocated_twice : Program
allocated_twice =
    program (later "A" 1 ∷ [])
    (Allocate 2 (name "A") (expressions (n 2 ∷ []))
    ∷ Assignment 3 None (to "A") (n 4)
    ∷ Print 4 (items (Single (v "A") ∷ []))
    ∷ Allocate 5 (name "A") (expressions (n 2 ∷ []))
    ∷ [])

-- each element is 0 again, and the extents are new
--
--     INTEGER, ALLOCATABLE :: A(:, :)
--     ALLOCATE (A(1:1, 1:2))
--     A = 4
--     DEALLOCATE (A)
--     ALLOCATE (A(1:2, 1:1))
--     A(2, 1) = 5
--     PRINT *, A
--     END
abbrev pub allocated_again : Program
allocated_again =
    program (later "A" 2 ∷ [])
    (Allocate 2 (name "A") (expressions (n 1 ∷ n 2 ∷ []))
    ∷ Assignment 3 None (to "A") (n 4)
    ∷ Deallocate 4 (name "A")
    ∷ Allocate 5 (name "A") (expressions (n 2 ∷ n 1 ∷ []))
    ∷ Assignment 6 None (to_part "A" (Only (n 2) ∷ Only (n 1) ∷ [])) (n 5)
    ∷ Print 7 (items (Single (v "A") ∷ []))
    ∷ [])

-- a fault of an extent comes before Allocated
--
--     INTEGER, ALLOCATABLE :: A(:)
--     INTEGER :: N
--     ALLOCATE (A(1:2))
--     ALLOCATE (A(1:1 / N))
--     END
abbrev pub extents_come_first : Program
extents_come_first =
    program (later "A" 1 ∷ integer "N" ∷ [])
    (Allocate 3 (name "A") (expressions (n 2 ∷ []))
    ∷ Allocate 4 (name "A") (expressions (Binary Div (n 1) (v "N") ∷ []))
    ∷ [])

-- no element
--
--     INTEGER, ALLOCATABLE :: A(:)
--     ALLOCATE (A(1:-3))
--     PRINT *, SUM(A)
--     A(1) = 1
--     END
abbrev pub negative_extent : Program
negative_extent =
    program (later "A" 1 ∷ [])
    (Allocate 2 (name "A") (expressions (Unary Neg (n 3) ∷ []))
    ∷ Print 3 (items (Single (Reduce Sum (v "A")) ∷ []))
    ∷ Assignment 4 None (to_part "A" (Only (n 1) ∷ [])) (n 1)
    ∷ [])

-- subscripts come before it
--
--     INTEGER, ALLOCATABLE :: A(:)
--     INTEGER :: N
--     A(1 / N) = 1
--     END
abbrev pub not_allocated : Program
not_allocated =
    program (later "A" 1 ∷ integer "N" ∷ [])
    (Assignment 3 None (to_part "A" (Only (Binary Div (n 1) (v "N")) ∷ [])) (n 1)
    ∷ [])

-- used before allocate
--
--     INTEGER, ALLOCATABLE :: A(:)
--     PRINT *, SUM(A)
--     END
abbrev pub used_before_allocate : Program
used_before_allocate =
    program (later "A" 1 ∷ [])
    (Print 2 (items (Single (Reduce Sum (v "A")) ∷ []))
    ∷ [])

-- deallocated twice
--
--     INTEGER, ALLOCATABLE :: A(:)
--     ALLOCATE (A(1:2))
--     DEALLOCATE (A)
--     DEALLOCATE (A)
--     END
abbrev pub deallocated_twice : Program
deallocated_twice =
    program (later "A" 1 ∷ [])
    (Allocate 2 (name "A") (expressions (n 2 ∷ []))
    ∷ Deallocate 3 (name "A")
    ∷ Deallocate 4 (name "A")
    ∷ [])
