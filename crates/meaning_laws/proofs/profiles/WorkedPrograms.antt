-- Worked programs of Fortran 90, trees that are none, and how deep printed expressions are.
use Rattle.std.proofs.Common.{◌≡◌, refl, rules, List, [], ◌∷◌, pos, None, arith}
use lib.Chars.{codes}
use Rattle.tree.specs.Plain.{Unary, Binary, Apply, Constructor, Spread, Transpose, Reshape, Reduce, Only, subscripts, expressions, no_loops, loop, Single, Constant, ImpliedDo, items, Assignment, Where, If, Do, Label, GoTo, Print, Read, Allocate, Deallocate, no_arms, arm, block, no_statements, Later, Declaration, Program}
use Rattle.tree.specs.declared.ops.Kind.TheVariants.{Integer}
use Rattle.tree.specs.declared.ops.Op.TheVariants.{Pow, Mul, Neg, Add, Sub, Lt, Not, And}
use Rattle.tree.specs.declared.functions.Fun.TheVariants.{Max}
use Rattle.tree.specs.declared.functions.Red.TheVariants.{Sum}
use Rattle.meaning.specs.Depths.{depth_of, depth_of_item}
use Rattle.meaning.specs.Typed90.{rank_of, HasKind}
use Rattle.meaning.specs.Profile90.{AreDeclarations, IsBlock, IsProgram90}
use Rattle.meaning.specs.Blocks.{outermost}
use Rattle.meaning.proofs.DeckWords.{n, v, at, to, integer, integers, logicals, program, part, triplet}

-- ---- depths

-- A - B - C, A - (B - C), -(A + B), -A * B
left_needs_none : depth_of (Binary Sub (Binary Sub (v "A") (v "B")) (v "C")) ≡ 2
left_needs_none = refl

right_needs_one : depth_of (Binary Sub (v "A") (Binary Sub (v "B") (v "C"))) ≡ 3
right_needs_one = refl

sum_under_sign : depth_of (Unary Neg (Binary Add (v "A") (v "B"))) ≡ 3
sum_under_sign = refl

product_under_sign : depth_of (Unary Neg (Binary Mul (v "A") (v "B"))) ≡ 2
product_under_sign = refl

-- A ** B ** C, (A ** B) ** C, A ** (-B), A < -B, (A < B) < C, .NOT. (L .AND. M)
powers_group_right : depth_of (Binary Pow (v "A") (Binary Pow (v "B") (v "C"))) ≡ 2
powers_group_right = refl

power_of_power : depth_of (Binary Pow (Binary Pow (v "A") (v "B")) (v "C")) ≡ 3
power_of_power = refl

sign_in_power : depth_of (Binary Pow (v "A") (Unary Neg (v "B"))) ≡ 3
sign_in_power = refl

sign_in_relation : depth_of (Binary Lt (v "A") (Unary Neg (v "B"))) ≡ 2
sign_in_relation = refl

relations_group_never : depth_of (Binary Lt (Binary Lt (v "A") (v "B")) (v "C")) ≡ 3
relations_group_never = refl

conjunction_negated : depth_of (Unary Not (Binary And (v "L") (v "M"))) ≡ 3
conjunction_negated = refl

-- A(I + 1), A(1:N + 1:2), RESHAPE(A, (/ N + 1 /)), (/ ((I + J, I = 1, N), J = 1, N) /)
element_depth : depth_of (at "A" (Binary Add (v "I") (n 1) ∷ [])) ≡ 2
element_depth = refl

section_depth : depth_of (part "A" (triplet (n 1) (Binary Add (v "N") (n 1)) (n 2) ∷ [])) ≡ 2
section_depth = refl

reshape_depth : depth_of (Reshape (v "A") (expressions (Binary Add (v "N") (n 1) ∷ []))) ≡ 3
reshape_depth = refl

loops_depth : depth_of (Constructor (expressions (Binary Add (v "I") (v "J") ∷ [])) (loop (codes "I") (n 1) (v "N") (loop (codes "J") (n 1) (v "N") no_loops))) ≡ 4
loops_depth = refl

-- ((I, I = 1, N), J = 1, N)
lists_depth : depth_of_item (ImpliedDo (items (ImpliedDo (items (Single (v "I") ∷ [])) (codes "I") (n 1) (v "N") (n 1) ∷ [])) (codes "J") (n 1) (v "N") (n 1)) ≡ 2
lists_depth = refl

-- ---- a program

--     INTEGER :: A(10)
--     INTEGER, ALLOCATABLE :: FV_EXP_T(:, :)
--     INTEGER :: I
--     LOGICAL :: M(10)
--     READ *, (A(I), I = 1, 10)
--     M = A < 3
--     ALLOCATE (FV_EXP_T(1:I, 1:2))
--     WHERE (M) A = MAX(A, 3 - I)
--     A(1:9:2) = (/ (I * 2, I = 1, 5) /)
--     FV_EXP_T(1:10, 1:2) = SPREAD(A, 2, 2)
--     DO I = 1, 10
--     IF (M(I)) THEN
--     GO TO 10
--     END IF
--     A((/ I, 1 /)) = -I
--     END DO
--     10 CONTINUE
--     PRINT *, SUM(A), 'A', RESHAPE(A, (/ 2, 5 /)), TRANSPOSE(FV_EXP_T)
--     DEALLOCATE (FV_EXP_T)
abbrev made : Declaration
made = record { name = codes "FV_EXP_T"; kind = Integer; extent = Later 2 }

abbrev arrays : Program
arrays = program (integers "A" ((pos 1, pos 10) ∷ []) ∷ made ∷ integer "I" ∷ logicals "M" ((pos 1, pos 10) ∷ []) ∷ []) (
    Read 5 (items (ImpliedDo (items (Single (at "A" (v "I" ∷ [])) ∷ [])) (codes "I") (n 1) (n 10) (n 1) ∷ []))
    ∷ Assignment 6 None (to "M") (Binary Lt (v "A") (n 3))
    ∷ Allocate 7 (codes "FV_EXP_T") (expressions (v "I" ∷ n 2 ∷ []))
    ∷ Where 8 None (v "M") (to "A") (Apply Max (expressions (v "A" ∷ Binary Sub (n 3) (v "I") ∷ [])))
    ∷ Assignment 9 None (record { name = codes "A"; subscripts = subscripts (triplet (n 1) (n 9) (n 2) ∷ []) })
    (Constructor (expressions (Binary Mul (v "I") (n 2) ∷ [])) (loop (codes "I") (n 1) (n 5) no_loops))
    ∷ Assignment 10 None (record { name = codes "FV_EXP_T"; subscripts = subscripts (triplet (n 1) (n 10) (n 1) ∷ triplet (n 1) (n 2) (n 1) ∷ []) }) (Spread (v "A") 2 (n 2))
    ∷ Do 11 (codes "I") (n 1) (n 10) (n 1) (block (
    If 12 (arm (at "M" (v "I" ∷ [])) (block (GoTo 13 10 ∷ [])) no_arms) no_statements
    ∷ Assignment 15 None (record { name = codes "A"; subscripts = subscripts (Only (Constructor (expressions (v "I" ∷ n 1 ∷ [])) no_loops) ∷ []) }) (Unary Neg (v "I"))
    ∷ []))
    ∷ Label 10
    ∷ Print 18 (items (Single (Reduce Sum (v "A")) ∷ Constant (codes "A") ∷ Single (Reshape (v "A") (expressions (n 2 ∷ n 5 ∷ []))) ∷ Single (Transpose (v "FV_EXP_T")) ∷ []))
    ∷ Deallocate 19 (codes "FV_EXP_T")
    ∷ [])

arrays_declarations : AreDeclarations arrays.declarations
arrays_declarations = search rules

arrays_statements : IsBlock arrays.declarations arrays.body outermost
arrays_statements = search rules

arrays_program : IsProgram90 arrays
arrays_program = record {
  name = tt;
  declarations = arrays_declarations;
  statements = arrays_statements;
  blocks = omega arith;
  labels = search rules;
  named = search rules;
  few = omega arith;
}

-- ---- what doesn't suit

-- the sum of a scalar; an array beside one of another rank; a constructor with an array in it; SPREAD along a third dimension of two; a
-- function whose name is declared
abbrev ds : List Declaration
ds = arrays.declarations

sum_of_scalar : ¬ HasKind ds (Reduce Sum (v "I")) Integer
sum_of_scalar h = absurd (let l = h.1 in omega (arith, l))

spread_too_far : ¬ HasKind ds (Spread (v "A") 3 (n 2)) Integer
spread_too_far h = absurd (let l = h.2 in omega (arith, l))

hidden_function : ¬ HasKind (integer "MAX" ∷ []) (Apply Max (expressions (n 1 ∷ n 2 ∷ []))) Integer
hidden_function h = absurd (let e = h.1 in cc)

array_in_list : ¬ HasKind ds (Constructor (expressions (v "A" ∷ [])) no_loops) Integer
array_in_list h = absurd (let e = h.0.0.1 in omega (arith, e))

ranks_that_differ : rank_of ds (Binary Add (v "FV_EXP_T") (n 1)) ≡ 2
ranks_that_differ = refl
