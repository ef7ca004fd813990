-- Worked programs with arrays as values.
use Rattle.std.proofs.Common.{◌≡◌, refl, ℕ, [], ◌∷◌, ◌++◌, List, pos, negsuc, Some, None, true, false}
use Rattle.tree.specs.Plain.{Expression, Expressions, Logic, Unary, Binary, Apply, Constructor, Spread, Transpose, Reshape, Reduce, Subscript, Only, Section, no_loops, loop, expressions, Statement, Single, items, Assignment, Where, If, Do, Print, Read, Allocate, Deallocate, block, Program}
use Rattle.tree.specs.declared.ops.Op.TheVariants.{Mul, Div, Neg, Add, Sub, Ne, Gt}
use Rattle.tree.specs.declared.functions.Red.TheVariants.{Sum, MaxVal, MinVal}
use Rattle.tree.specs.declared.ops.Kind.TheVariants.{Integer, Logical}
use Rattle.tree.specs.declared.ops.Fault.TheVariants.{Overflow, ZeroDivide, Bounds, ZeroStep, Shape, Allocated}
use Rattle.meaning.specs.declared.End.TheVariants.{Done, Fault}
use Rattle.meaning.specs.Array.{array_run}
use Rattle.tree.specs.declared.width.Width.TheVariants.{Plain}
use Rattle.meaning.specs.Sequential.{ending}
use Rattle.meaning.proofs.DeckWords.{computed, n, v, at, to, to_element, integer, integers, logicals, later, name, part, to_part, program, lines}

-- ---- overlapping sections
-- INTEGER :: A(4)
-- A = (/ 1, 2, 3, 4 /)
-- A(2:4) = A(1:3)
-- PRINT *, A
abbrev list : List Expression → Expression
list es = Constructor (expressions es) no_loops

abbrev span : ℕ → ℕ → Subscript
span a b = Section (n a) (n b) (n 1)

abbrev print : Expression → Statement
print e = Print 9 (items (Single e ∷ []))

abbrev overlapping : Program
overlapping = program (integers "A" ((pos 1, pos 4) ∷ []) ∷ [])
    (Assignment 2 None (to "A") (list (n 1 ∷ n 2 ∷ n 3 ∷ n 4 ∷ []))
    ∷ Assignment 3 None (to_part "A" (span 2 4 ∷ [])) (part "A" (span 1 3 ∷ []))
    ∷ print (v "A")
    ∷ [])

overlapping_written : (array_run Plain overlapping []).written ≡ lines (" 1 1 2 3" ∷ [])
unfolding computed
overlapping_written = refl

overlapping_steps : (array_run Plain overlapping []).steps ≡ 10
unfolding computed
overlapping_steps = refl

-- ---- extents that don't conform
-- A(2:4) = A(1:2)
abbrev unequal_extents : Program
unequal_extents = program (integers "A" ((pos 1, pos 4) ∷ []) ∷ [])
    (Assignment 2 None (to_part "A" (span 2 4 ∷ [])) (part "A" (span 1 2 ∷ [])) ∷ [])

unequal_extents_ending : ending (array_run Plain unequal_extents []) ≡ Some (Fault Shape 2)
unfolding computed
unequal_extents_ending = refl

-- ---- a negative stride
-- A = (/ 1, 2, 3, 4, 5 /)
-- A(5:1:-2) = A(1:3)
-- PRINT *, A
-- PRINT *, A(4:1:-1)
abbrev negative_stride : Program
negative_stride = program (integers "A" ((pos 1, pos 5) ∷ []) ∷ [])
    (Assignment 2 None (to "A") (list (n 1 ∷ n 2 ∷ n 3 ∷ n 4 ∷ n 5 ∷ []))
    ∷ Assignment 3 None (to_part "A" (Section (n 5) (n 1) (Unary Neg (n 2)) ∷ [])) (part "A" (span 1 3 ∷ []))
    ∷ print (v "A")
    ∷ print (part "A" (Section (n 4) (n 1) (Unary Neg (n 1)) ∷ []))
    ∷ [])

negative_stride_written : (array_run Plain negative_stride []).written ≡ lines (" 3 2 2 4 1" ∷ " 4 2 2 3" ∷ [])
unfolding computed
negative_stride_written = refl

-- ---- a stride of 0
stride_of_zero : ending (array_run Plain (program (integers "A" ((pos 1, pos 5) ∷ []) ∷ []) (print (part "A" (Section (n 5) (n 1) (n 0) ∷ [])) ∷ [])) []) ≡ Some (Fault ZeroStep 9)
unfolding computed
stride_of_zero = refl

-- ---- WHERE passes over a divisor of 0
-- READ *, B, C
-- WHERE (B /= 0) A = C / B
-- PRINT *, A
-- A = C / B
abbrev guarded_division : Program
guarded_division = program (integers "A" ((pos 1, pos 5) ∷ []) ∷ integers "B" ((pos 1, pos 5) ∷ []) ∷ integers "C" ((pos 1, pos 5) ∷ []) ∷ [])
    (Read 2 (items (Single (v "B") ∷ Single (v "C") ∷ []))
    ∷ Where 3 None (Binary Ne (v "B") (n 0)) (to "A") (Binary Div (v "C") (v "B"))
    ∷ print (v "A")
    ∷ Assignment 5 None (to "A") (Binary Div (v "C") (v "B"))
    ∷ [])

guarded_division_written : (array_run Plain guarded_division (lines ("2 0 -3 0 5" ∷ "9 9 9 9 9" ∷ []))).written ≡ lines (" 4 0 -3 0 1" ∷ [])
unfolding computed
guarded_division_written = refl

guarded_division_ending : ending (array_run Plain guarded_division (lines ("2 0 -3 0 5" ∷ "9 9 9 9 9" ∷ []))) ≡ Some (Fault ZeroDivide 5)
unfolding computed
guarded_division_ending = refl

-- ---- empty sections: an operation on scalars is performed at no position, a subscript is evaluated
-- A(3:2) = 1 / N
-- PRINT *, SUM(A(4:3) + 1 / N), MAXVAL(A(4:3)), MINVAL(A(4:3)), A(7:6)
abbrev empty_sections : Program
empty_sections = program (integers "A" ((pos 1, pos 5) ∷ []) ∷ integer "N" ∷ [])
    (Assignment 2 None (to_part "A" (span 3 2 ∷ [])) (Binary Div (n 1) (v "N"))
    ∷ Print 3 (items (Single (Reduce Sum (Binary Add (part "A" (span 4 3 ∷ [])) (Binary Div (n 1) (v "N")))) ∷ Single (Reduce MaxVal (part "A" (span 4 3 ∷ []))) ∷ Single (Reduce MinVal (part "A" (span 4 3 ∷ []))) ∷ Single (part "A" (span 7 6 ∷ [])) ∷ []))
    ∷ [])

empty_sections_written : (array_run Plain empty_sections []).written ≡ lines (" 0 -2147483648 2147483647" ∷ [])
unfolding computed
empty_sections_written = refl

-- A(3:2) = A(1 / N)
empty_section_subscript : ending (array_run Plain (program (integers "A" ((pos 1, pos 5) ∷ []) ∷ integer "N" ∷ []) (Assignment 2 None (to_part "A" (span 3 2 ∷ [])) (at "A" (Binary Div (n 1) (v "N") ∷ [])) ∷ [])) []) ≡ Some (Fault ZeroDivide 2)
unfolding computed
empty_section_subscript = refl

-- INTEGER :: M(2, 3)
-- M(3, 2:1) = 0
empty_section_beside : ending (array_run Plain (program (integers "M" ((pos 1, pos 2) ∷ (pos 1, pos 3) ∷ []) ∷ []) (Assignment 2 None (to_part "M" (Only (n 3) ∷ span 2 1 ∷ [])) (n 0) ∷ [])) []) ≡ Some (Fault Bounds 2)
unfolding computed
empty_section_beside = refl

-- ---- array functions
-- C = (/ 1, 2, 3 /)
-- PRINT *, e
abbrev shown : Expression → Program
shown e = program (integers "C" ((pos 1, pos 3) ∷ []) ∷ []) (Assignment 2 None (to "C") (list (n 1 ∷ n 2 ∷ n 3 ∷ [])) ∷ print e ∷ [])

spread_first : (array_run Plain (shown (Spread (v "C") 1 (n 2))) []).written ≡ lines (" 1 1 2 2 3 3" ∷ [])
unfolding computed
spread_first = refl

spread_last : (array_run Plain (shown (Spread (v "C") 2 (n 2))) []).written ≡ lines (" 1 2 3 1 2 3" ∷ [])
unfolding computed
spread_last = refl

-- of extents 2, 3, 2: each of C twice along the first dimension, and all of it twice along the last one
spread_of_spread : (array_run Plain (shown (Spread (Spread (v "C") 1 (n 2)) 3 (n 2))) []).written ≡ lines (" 1 1 2 2 3 3 1 1 2 2 3 3" ∷ [])
unfolding computed
spread_of_spread = refl

spread_of_scalar : (array_run Plain (shown (Spread (n 7) 1 (n 3))) []).written ≡ lines (" 7 7 7" ∷ [])
unfolding computed
spread_of_scalar = refl

abbrev six : Expression
six = Reshape (list (n 1 ∷ n 2 ∷ n 3 ∷ n 4 ∷ n 5 ∷ n 6 ∷ [])) (expressions (n 2 ∷ n 3 ∷ []))

transposed_rows : (array_run Plain (shown (Transpose six)) []).written ≡ lines (" 1 3 5 2 4 6" ∷ [])
unfolding computed
transposed_rows = refl

reshaped_with_too_few : ending (array_run Plain (shown (Reshape (v "C") (expressions (n 2 ∷ n 2 ∷ [])))) []) ≡ Some (Fault Shape 9)
unfolding computed
reshaped_with_too_few = refl

reshaped_with_more : (array_run Plain (shown (Reshape (v "C") (expressions (n 2 ∷ [])))) []).written ≡ lines (" 1 2" ∷ [])
unfolding computed
reshaped_with_more = refl

sum_and_operator : (array_run Plain (shown (Binary Add (Reduce Sum (v "C")) (n 1))) []).written ≡ lines (" 7" ∷ [])
unfolding computed
sum_and_operator = refl

-- SUM(SPREAD(C, 2, 2) * 2) + C: an array function within an array
sum_within_array : (array_run Plain (shown (Binary Add (Reduce Sum (Binary Mul (Spread (v "C") 2 (n 2)) (n 2))) (v "C"))) []).written ≡ lines (" 25 26 27" ∷ [])
unfolding computed
sum_within_array = refl

-- ---- constructors with loops, the first one innermost
-- (/ ((10 * I + J, I = 1, J), J = 1, 3) /)
abbrev two_loops : Program
two_loops = program (integer "I" ∷ integer "J" ∷ [])
    (Assignment 1 None (to "I") (n 9)
    ∷ print (Constructor (expressions (Binary Add (Binary Mul (n 10) (v "I")) (v "J") ∷ [])) (loop (name "I") (n 1) (v "J") (loop (name "J") (n 1) (n 3) no_loops)))
    ∷ print (v "I")
    ∷ [])

two_loops_written : (array_run Plain two_loops []).written ≡ lines (" 11 12 22 13 23 33" ∷ " 9" ∷ [])
unfolding computed
two_loops_written = refl

-- (/ (I, I = 2147483646, 2147483648) /)
loop_leaves_range : ending (array_run Plain (program (integer "I" ∷ []) (print (Constructor (expressions (v "I" ∷ [])) (loop (name "I") (n 2147483646) (n 2147483648) no_loops)) ∷ [])) []) ≡ Some (Fault Overflow 9)
unfolding computed
loop_leaves_range = refl

-- (/ (I, I = 2147483646, 2147483647) /)
loop_to_the_end : (array_run Plain (program (integer "I" ∷ []) (print (Constructor (expressions (v "I" ∷ [])) (loop (name "I") (n 2147483646) (n 2147483647) no_loops)) ∷ [])) []).written ≡ lines (" 2147483646 2147483647" ∷ [])
unfolding computed
loop_to_the_end = refl

-- ---- ALLOCATE and DEALLOCATE
-- INTEGER, ALLOCATABLE :: A(:)
-- ALLOCATE (A(1:2))
-- A = 5
-- PRINT *, A
-- DEALLOCATE (A)
-- ALLOCATE (A(1:3))
-- PRINT *, A
-- ALLOCATE (A(1:2))
abbrev allocations : List Statement → Program
allocations cs = program (later "A" Integer 1 ∷ [])
    (Allocate 2 (name "A") (expressions (n 2 ∷ []))
    ∷ Assignment 3 None (to "A") (n 5)
    ∷ print (v "A")
    ∷ Deallocate 5 (name "A")
    ∷ cs)

allocated_twice : ending (array_run Plain (allocations (Allocate 6 (name "A") (expressions (n 3 ∷ [])) ∷ print (v "A") ∷ Allocate 8 (name "A") (expressions (n 2 ∷ [])) ∷ [])) []) ≡ Some (Fault Allocated 8)
unfolding computed
allocated_twice = refl

allocated_again : (array_run Plain (allocations (Allocate 6 (name "A") (expressions (n 3 ∷ [])) ∷ print (v "A") ∷ [])) []).written ≡ lines (" 5 5" ∷ " 0 0 0" ∷ [])
unfolding computed
allocated_again = refl

used_after_deallocate : ending (array_run Plain (allocations (print (at "A" (n 1 ∷ [])) ∷ [])) []) ≡ Some (Fault Allocated 9)
unfolding computed
used_after_deallocate = refl

deallocated_twice : ending (array_run Plain (allocations (Deallocate 6 (name "A") ∷ [])) []) ≡ Some (Fault Allocated 6)
unfolding computed
deallocated_twice = refl

-- ---- a subscript of rank one that names an element twice: the last store wins, and each is a step
-- K = (/ 2, 2, 1 /)
-- A(K) = (/ 7, 8, 9 /)
-- PRINT *, A, A(K)
abbrev repeated_element : Program
repeated_element = program (integers "A" ((pos 1, pos 3) ∷ []) ∷ integers "K" ((pos 1, pos 3) ∷ []) ∷ [])
    (Assignment 2 None (to "K") (list (n 2 ∷ n 2 ∷ n 1 ∷ []))
    ∷ Assignment 3 None (to_part "A" (Only (v "K") ∷ [])) (list (n 7 ∷ n 8 ∷ n 9 ∷ []))
    ∷ Print 4 (items (Single (v "A") ∷ Single (part "A" (Only (v "K") ∷ [])) ∷ []))
    ∷ [])

repeated_element_written : (array_run Plain repeated_element []).written ≡ lines (" 9 8 0 8 8 9" ∷ [])
unfolding computed
repeated_element_written = refl

repeated_element_steps : (array_run Plain repeated_element []).steps ≡ 9
unfolding computed
repeated_element_steps = refl

-- ---- the range of all values is looked at before the first store
-- A = (/ 1, 2147483647 /) + 1
abbrev range_before_stores : Program
range_before_stores = program (integers "A" ((pos 1, pos 2) ∷ []) ∷ []) (Assignment 2 None (to "A") (Binary Add (list (n 1 ∷ n 2147483647 ∷ [])) (n 1)) ∷ [])

range_before_stores_ending : ending (array_run Plain range_before_stores []) ≡ Some (Fault Overflow 2)
unfolding computed
range_before_stores_ending = refl

range_before_stores_steps : (array_run Plain range_before_stores []).steps ≡ 1
unfolding computed
range_before_stores_steps = refl

-- ---- subscripts of all parts come before the operations of any
-- INTEGER :: A(2), N
-- A = A / N + A(3)
subscripts_before_operations : ending (array_run Plain (program (integers "A" ((pos 1, pos 2) ∷ []) ∷ integer "N" ∷ []) (Assignment 2 None (to "A") (Binary Add (Binary Div (v "A") (v "N")) (at "A" (n 3 ∷ []))) ∷ [])) []) ≡ Some (Fault Bounds 2)
unfolding computed
subscripts_before_operations = refl

-- A(1) = A(1) / N + A(3), whose left side is a scalar
operators_in_order : ending (array_run Plain (program (integers "A" ((pos 1, pos 2) ∷ []) ∷ integer "N" ∷ []) (Assignment 2 None (to_element "A" (n 1 ∷ [])) (Binary Add (Binary Div (at "A" (n 1 ∷ [])) (v "N")) (at "A" (n 3 ∷ []))) ∷ [])) []) ≡ Some (Fault ZeroDivide 2)
unfolding computed
operators_in_order = refl
