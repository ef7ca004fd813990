-- Worked decks on values, assignments, loops and jumps.
use Rattle.std.proofs.Common.{◌≡◌, refl, [], ◌∷◌, pos, negsuc, Some, None, true, false}
use lib.Chars.{codes}
use Rattle.tree.specs.Plain.{Logic, Unary, Binary, Apply, expressions, Single, items, Assignment, If, Do, Label, GoTo, Stop, Read, Print, no_arms, arm, block, no_statements, Program}
use Rattle.tree.specs.declared.ops.Op.TheVariants.{Pow, Mul, Div, Neg, Add, Sub, Lt, Eq, Gt, Not, And, Or, Eqv, Neqv}
use Rattle.tree.specs.declared.functions.Fun.TheVariants.{Mod, Max}
use Rattle.tree.specs.declared.ops.Value.TheVariants.{Int, Truth}
use Rattle.tree.specs.declared.ops.Fault.TheVariants.{Overflow, ZeroDivide, Bounds, ZeroStep}
use Rattle.meaning.specs.declared.End.TheVariants.{Done, Fault}
use Rattle.meaning.specs.Sequential.{sequential_run, ending}
use Rattle.meaning.specs.Steps.{cut_at}
use Rattle.tree.specs.declared.width.Width.TheVariants.{Plain}
use Rattle.meaning.proofs.DeckWords.{computed, n, v, at, to, to_element, integer, logical, integers, program, lines, cell}

-- ---- division truncates towards zero, and MOD has the sign of its first argument
--       PRINT *, -7 / 2, (-7) / 2, 7 / (-2), MOD(-7, 3), MOD(7, -3)
--       END
abbrev division_truncates : Program
division_truncates = program []
    (Print 1 (items (Single (Unary Neg (Binary Div (n 7) (n 2))) ∷ Single (Binary Div (Unary Neg (n 7)) (n 2)) ∷ Single (Binary Div (n 7) (Unary Neg (n 2))) ∷ Single (Apply Mod (expressions (Unary Neg (n 7) ∷ n 3 ∷ []))) ∷ Single (Apply Mod (expressions (n 7 ∷ Unary Neg (n 3) ∷ []))) ∷ []))
    ∷ [])

division_truncates_written : (sequential_run Plain division_truncates []).written ≡ lines (" -3 -3 -3 -1 1" ∷ [])
unfolding computed
division_truncates_written = refl

-- ---- powers with exponents of each sign
--       PRINT *, 2 ** 10, 2 ** (-1), (-1) ** (-3), 1 ** (-5), 0 ** 0
--       PRINT *, 0 ** (-1)
--       END
abbrev powers : Program
powers = program []
    (Print 1 (items (Single (Binary Pow (n 2) (n 10)) ∷ Single (Binary Pow (n 2) (Unary Neg (n 1))) ∷ Single (Binary Pow (Unary Neg (n 1)) (Unary Neg (n 3))) ∷ Single (Binary Pow (n 1) (Unary Neg (n 5))) ∷ Single (Binary Pow (n 0) (n 0)) ∷ []))
    ∷ Print 2 (items (Single (Binary Pow (n 0) (Unary Neg (n 1))) ∷ []))
    ∷ [])

powers_written : (sequential_run Plain powers []).written ≡ lines (" 1024 0 -1 1 1" ∷ [])
unfolding computed
powers_written = refl

powers_ending : ending (sequential_run Plain powers []) ≡ Some (Fault ZeroDivide 2)
unfolding computed
powers_ending = refl

-- ---- MOD of the least number of 128 bits by -1
--       PRINT *, MOD(-170141183460469231731687303715884105727 - 1, -1)
--       END
abbrev remainder_of_the_least : Program
remainder_of_the_least = program []
    (Print 1 (items (Single (Apply Mod (expressions (Binary Sub (Unary Neg (n 170141183460469231731687303715884105727)) (n 1) ∷ Unary Neg (n 1) ∷ []))) ∷ []))
    ∷ [])

remainder_of_the_least_written : (sequential_run Plain remainder_of_the_least []).written ≡ lines (" 0" ∷ [])
unfolding computed
remainder_of_the_least_written = refl

remainder_of_the_least_ending : ending (sequential_run Plain remainder_of_the_least []) ≡ Some Done
unfolding computed
remainder_of_the_least_ending = refl

-- ---- the left operand is evaluated first
--       PRINT *, 1 / N + 2 ** 127
--       END
abbrev left_operand_first : Program
left_operand_first = program (integer "N" ∷ [])
    (Print 1 (items (Single (Binary Add (Binary Div (n 1) (v "N")) (Binary Pow (n 2) (n 127))) ∷ []))
    ∷ [])

left_operand_first_ending : ending (sequential_run Plain left_operand_first []) ≡ Some (Fault ZeroDivide 1)
unfolding computed
left_operand_first_ending = refl

-- ---- the right operand is evaluated second
--       PRINT *, 2 ** 127 + 1 / N
--       END
abbrev right_operand_second : Program
right_operand_second = program (integer "N" ∷ [])
    (Print 1 (items (Single (Binary Add (Binary Pow (n 2) (n 127)) (Binary Div (n 1) (v "N"))) ∷ []))
    ∷ [])

right_operand_second_ending : ending (sequential_run Plain right_operand_second []) ≡ Some (Fault Overflow 1)
unfolding computed
right_operand_second_ending = refl

-- ---- both operands of .AND. are evaluated
--       LOGICAL L
--       L = .FALSE. .AND. 1 / N .EQ. 1
--       END
abbrev both_operands : Program
both_operands = program (logical "L" ∷ integer "N" ∷ [])
    (Assignment 2 None (to "L") (Binary And (Logic false) (Binary Eq (Binary Div (n 1) (v "N")) (n 1)))
    ∷ [])

both_operands_ending : ending (sequential_run Plain both_operands []) ≡ Some (Fault ZeroDivide 2)
unfolding computed
both_operands_ending = refl

-- ---- all subscripts are evaluated before one is held against its bounds
--       INTEGER A(3,3)
--       PRINT *, A(4, 1 / N)
--       END
abbrev subscripts_before_bounds : Program
subscripts_before_bounds = program (integers "A" ((pos 1, pos 3) ∷ (pos 1, pos 3) ∷ []) ∷ integer "N" ∷ [])
    (Print 2 (items (Single (at "A" (n 4 ∷ Binary Div (n 1) (v "N") ∷ [])) ∷ []))
    ∷ [])

subscripts_before_bounds_ending : ending (sequential_run Plain subscripts_before_bounds []) ≡ Some (Fault ZeroDivide 2)
unfolding computed
subscripts_before_bounds_ending = refl

-- ---- subscripts are evaluated from left to right
--       INTEGER A(3,3)
--       PRINT *, A(1 / N, 2 ** 127)
--       END
abbrev subscripts_in_order : Program
subscripts_in_order = program (integers "A" ((pos 1, pos 3) ∷ (pos 1, pos 3) ∷ []) ∷ integer "N" ∷ [])
    (Print 2 (items (Single (at "A" (Binary Div (n 1) (v "N") ∷ Binary Pow (n 2) (n 127) ∷ [])) ∷ []))
    ∷ [])

subscripts_in_order_ending : ending (sequential_run Plain subscripts_in_order []) ≡ Some (Fault ZeroDivide 2)
unfolding computed
subscripts_in_order_ending = refl

-- ---- arguments are evaluated from left to right
--       PRINT *, MAX(1, 1 / N, 2 ** 127)
--       END
abbrev arguments_in_order : Program
arguments_in_order = program (integer "N" ∷ [])
    (Print 1 (items (Single (Apply Max (expressions (n 1 ∷ Binary Div (n 1) (v "N") ∷ Binary Pow (n 2) (n 127) ∷ []))) ∷ []))
    ∷ [])

arguments_in_order_ending : ending (sequential_run Plain arguments_in_order []) ≡ Some (Fault ZeroDivide 1)
unfolding computed
arguments_in_order_ending = refl

-- ---- the right side is evaluated before the left subscripts
--       INTEGER A(3)
--       A(1 / N) = 2 ** 127
--       END
abbrev right_side_first : Program
right_side_first = program (integers "A" ((pos 1, pos 3) ∷ []) ∷ integer "N" ∷ [])
    (Assignment 2 None (to_element "A" (Binary Div (n 1) (v "N") ∷ [])) (Binary Pow (n 2) (n 127))
    ∷ [])

right_side_first_ending : ending (sequential_run Plain right_side_first []) ≡ Some (Fault Overflow 2)
unfolding computed
right_side_first_ending = refl

-- ---- the bounds are checked before the range
--       INTEGER A(3)
--       A(4) = 2147483648
--       END
abbrev bounds_before_range : Program
bounds_before_range = program (integers "A" ((pos 1, pos 3) ∷ []) ∷ [])
    (Assignment 2 None (to_element "A" (n 4 ∷ [])) (n 2147483648)
    ∷ [])

bounds_before_range_ending : ending (sequential_run Plain bounds_before_range []) ≡ Some (Fault Bounds 2)
unfolding computed
bounds_before_range_ending = refl

-- ---- the range is checked before the element's step is counted
--       I = 2147483648
--       END
abbrev range_before_step : Program
range_before_step = program (integer "I" ∷ [])
    (Assignment 1 None (to "I") (n 2147483648)
    ∷ [])

range_before_step_steps : (sequential_run Plain range_before_step []).steps ≡ 1
unfolding computed
range_before_step_steps = refl

range_before_step_cut_1_ending : ending (cut_at Plain 1 range_before_step []) ≡ Some (Fault Overflow 1)
unfolding computed
range_before_step_cut_1_ending = refl

-- ---- each dimension has its own bounds
--       INTEGER A(-1:1,2)
--       A(-1,2) = 5
--       PRINT *, A
--       A(1,0) = 5
--       END
abbrev bounds_of_each_dimension : Program
bounds_of_each_dimension = program (integers "A" ((negsuc 0, pos 1) ∷ (pos 1, pos 2) ∷ []) ∷ [])
    (Assignment 2 None (to_element "A" (Unary Neg (n 1) ∷ n 2 ∷ [])) (n 5)
    ∷ Print 3 (items (Single (v "A") ∷ []))
    ∷ Assignment 4 None (to_element "A" (n 1 ∷ n 0 ∷ [])) (n 5)
    ∷ [])

bounds_of_each_dimension_written : (sequential_run Plain bounds_of_each_dimension []).written ≡ lines (" 0 0 0 5 0 0" ∷ [])
unfolding computed
bounds_of_each_dimension_written = refl

bounds_of_each_dimension_ending : ending (sequential_run Plain bounds_of_each_dimension []) ≡ Some (Fault Bounds 4)
unfolding computed
bounds_of_each_dimension_ending = refl

-- ---- LOGICAL values and their operators
--       LOGICAL L, M
--       L = .NOT. M .AND. 2 .GT. 1
--       M = L .NEQV. .TRUE. .OR. L
--       PRINT *, L, M, L .EQV. M
--       END
abbrev logical_assignment : Program
logical_assignment = program (logical "L" ∷ logical "M" ∷ [])
    (Assignment 2 None (to "L") (Binary And (Unary Not (v "M")) (Binary Gt (n 2) (n 1)))
    ∷ Assignment 3 None (to "M") (Binary Neqv (v "L") (Binary Or (Logic true) (v "L")))
    ∷ Print 4 (items (Single (v "L") ∷ Single (v "M") ∷ Single (Binary Eqv (v "L") (v "M")) ∷ []))
    ∷ [])

logical_assignment_written : (sequential_run Plain logical_assignment []).written ≡ lines (" T F F" ∷ [])
unfolding computed
logical_assignment_written = refl

logical_assignment_holds_m : (sequential_run Plain logical_assignment []).store.held (cell "M" []) ≡ Truth false
unfolding computed
logical_assignment_holds_m = refl

-- ---- the last value of a DO variable, for each kind of increment
--       DO 10 I = 1, 5
--    10 CONTINUE
--       DO 20 J = 1, 6, 2
--    20 CONTINUE
--       DO 30 K = 5, 1, -3
--    30 CONTINUE
--       DO 40 L = 5, 1
--    40 CONTINUE
--       PRINT *, I, J, K, L
--       END
abbrev last_values : Program
last_values = program (integer "I" ∷ integer "J" ∷ integer "K" ∷ integer "L" ∷ [])
    (Do 1 (codes "I") (n 1) (n 5) (n 1) no_statements
    ∷ Do 3 (codes "J") (n 1) (n 6) (n 2) no_statements
    ∷ Do 5 (codes "K") (n 5) (n 1) (Unary Neg (n 3)) no_statements
    ∷ Do 7 (codes "L") (n 5) (n 1) (n 1) no_statements
    ∷ Print 9 (items (Single (v "I") ∷ Single (v "J") ∷ Single (v "K") ∷ Single (v "L") ∷ []))
    ∷ [])

last_values_written : (sequential_run Plain last_values []).written ≡ lines (" 6 7 -1 5" ∷ [])
unfolding computed
last_values_written = refl

last_values_steps : (sequential_run Plain last_values []).steps ≡ 11
unfolding computed
last_values_steps = refl

-- ---- a last value outside the range of INTEGER has the line of the DO
--       DO 10 I = 2147483647, 2147483647
--    10 K = K + 1
--       END
abbrev last_value_too_great : Program
last_value_too_great = program (integer "I" ∷ integer "K" ∷ [])
    (Do 1 (codes "I") (n 2147483647) (n 2147483647) (n 1) (block
    (Assignment 2 None (to "K") (Binary Add (v "K") (n 1))
    ∷ []))
    ∷ [])

last_value_too_great_ending : ending (sequential_run Plain last_value_too_great []) ≡ Some (Fault Overflow 1)
unfolding computed
last_value_too_great_ending = refl

last_value_too_great_holds_k : (sequential_run Plain last_value_too_great []).store.held (cell "K" []) ≡ Int (pos 1)
unfolding computed
last_value_too_great_holds_k = refl

last_value_too_great_holds_i : (sequential_run Plain last_value_too_great []).store.held (cell "I" []) ≡ Int (pos 2147483647)
unfolding computed
last_value_too_great_holds_i = refl

-- ---- an increment of 0 is found before the first value is stored
--       DO 10 I = 2147483648, 1, J
--    10 CONTINUE
--       END
abbrev increment_before_first_value : Program
increment_before_first_value = program (integer "I" ∷ integer "J" ∷ [])
    (Do 1 (codes "I") (n 2147483648) (n 1) (v "J") no_statements
    ∷ [])

increment_before_first_value_ending : ending (sequential_run Plain increment_before_first_value []) ≡ Some (Fault ZeroStep 1)
unfolding computed
increment_before_first_value_ending = refl

-- ---- the trip count's operations are those of an expression
--       I = 9
--       DO 10 I = 0, -170141183460469231731687303715884105727, -1
--    10 CONTINUE
--       END
abbrev trip_count_overflows : Program
trip_count_overflows = program (integer "I" ∷ [])
    (Assignment 1 None (to "I") (n 9)
    ∷ Do 2 (codes "I") (n 0) (Unary Neg (n 170141183460469231731687303715884105727)) (Unary Neg (n 1)) no_statements
    ∷ [])

trip_count_overflows_ending : ending (sequential_run Plain trip_count_overflows []) ≡ Some (Fault Overflow 2)
unfolding computed
trip_count_overflows_ending = refl

trip_count_overflows_holds_i : (sequential_run Plain trip_count_overflows []).store.held (cell "I" []) ≡ Int (pos 0)
unfolding computed
trip_count_overflows_holds_i = refl

-- ---- the parameters of a DO are evaluated from left to right
--       DO 10 I = 1 / N, 2 ** 127
--    10 CONTINUE
--       END
abbrev first_parameter_first : Program
first_parameter_first = program (integer "I" ∷ integer "N" ∷ [])
    (Do 1 (codes "I") (Binary Div (n 1) (v "N")) (Binary Pow (n 2) (n 127)) (n 1) no_statements
    ∷ [])

first_parameter_first_ending : ending (sequential_run Plain first_parameter_first []) ≡ Some (Fault ZeroDivide 1)
unfolding computed
first_parameter_first_ending = refl

-- ---- the increment comes last
--       DO 10 I = 1, 1 / N, N
--    10 CONTINUE
--       END
abbrev increment_last : Program
increment_last = program (integer "I" ∷ integer "N" ∷ [])
    (Do 1 (codes "I") (n 1) (Binary Div (n 1) (v "N")) (v "N") no_statements
    ∷ [])

increment_last_ending : ending (sequential_run Plain increment_last []) ≡ Some (Fault ZeroDivide 1)
unfolding computed
increment_last_ending = refl

-- ---- the trip count is fixed before the first turn
--       N = 3
--       DO 10 I = 1, N
--       N = 1
--    10 K = K + I
--       PRINT *, K, N
--       END
abbrev trip_count_is_fixed : Program
trip_count_is_fixed = program (integer "I" ∷ integer "K" ∷ integer "N" ∷ [])
    (Assignment 1 None (to "N") (n 3)
    ∷ Do 2 (codes "I") (n 1) (v "N") (n 1) (block
    (Assignment 3 None (to "N") (n 1)
    ∷ Assignment 4 None (to "K") (Binary Add (v "K") (v "I"))
    ∷ []))
    ∷ Print 5 (items (Single (v "K") ∷ Single (v "N") ∷ []))
    ∷ [])

trip_count_is_fixed_written : (sequential_run Plain trip_count_is_fixed []).written ≡ lines (" 6 1" ∷ [])
unfolding computed
trip_count_is_fixed_written = refl

-- ---- an inner loop begins anew in each turn
--       DO 10 I = 1, 3
--       DO 10 J = I, 3
--    10 K = K + 10 * I + J
--       PRINT *, K, I, J
--       END
abbrev nested_loops : Program
nested_loops = program (integer "I" ∷ integer "J" ∷ integer "K" ∷ [])
    (Do 1 (codes "I") (n 1) (n 3) (n 1) (block
    (Do 2 (codes "J") (v "I") (n 3) (n 1) (block
    (Assignment 3 None (to "K") (Binary Add (Binary Add (v "K") (Binary Mul (n 10) (v "I"))) (v "J"))
    ∷ []))
    ∷ []))
    ∷ Print 4 (items (Single (v "K") ∷ Single (v "I") ∷ Single (v "J") ∷ []))
    ∷ [])

nested_loops_written : (sequential_run Plain nested_loops []).written ≡ lines (" 114 4 4" ∷ [])
unfolding computed
nested_loops_written = refl

-- ---- the first condition that is true decides, and each one evaluated is a step
--       READ *, I
--       IF (I .LT. 1) THEN
--       K = 1
--       ELSE IF (I .LT. 10) THEN
--       K = 2
--       ELSE
--       K = 3
--       END IF
--       PRINT *, K
--       END
-- *DATA
-- 5
abbrev else_if_and_else : Program
else_if_and_else = program (integer "I" ∷ integer "K" ∷ [])
    (Read 1 (items (Single (v "I") ∷ []))
    ∷ If 2 (arm (Binary Lt (v "I") (n 1)) (block
    (Assignment 3 None (to "K") (n 1)
    ∷ [])) (arm (Binary Lt (v "I") (n 10)) (block
    (Assignment 5 None (to "K") (n 2)
    ∷ [])) no_arms)) (block
    (Assignment 7 None (to "K") (n 3)
    ∷ []))
    ∷ Print 9 (items (Single (v "K") ∷ []))
    ∷ [])

else_if_and_else_written : (sequential_run Plain else_if_and_else (lines ("5" ∷ []))).written ≡ lines (" 2" ∷ [])
unfolding computed
else_if_and_else_written = refl

else_if_and_else_steps : (sequential_run Plain else_if_and_else (lines ("5" ∷ []))).steps ≡ 7
unfolding computed
else_if_and_else_steps = refl

-- ---- a fault in the condition of an ELSE IF has the line of the IF
--       IF (N .EQ. 1) THEN
--       K = 1
--       ELSE IF (1 / N .EQ. 1) THEN
--       K = 2
--       END IF
--       END
abbrev fault_in_else_if : Program
fault_in_else_if = program (integer "K" ∷ integer "N" ∷ [])
    (If 1 (arm (Binary Eq (v "N") (n 1)) (block
    (Assignment 2 None (to "K") (n 1)
    ∷ [])) (arm (Binary Eq (Binary Div (n 1) (v "N")) (n 1)) (block
    (Assignment 4 None (to "K") (n 2)
    ∷ [])) no_arms)) no_statements
    ∷ [])

fault_in_else_if_ending : ending (sequential_run Plain fault_in_else_if []) ≡ Some (Fault ZeroDivide 1)
unfolding computed
fault_in_else_if_ending = refl

fault_in_else_if_steps : (sequential_run Plain fault_in_else_if []).steps ≡ 2
unfolding computed
fault_in_else_if_steps = refl

-- ---- a jump passes over the statements before its label
--       I = 1
--       GO TO 20
--       I = 1 / N
--       DO 10 I = 1, 9 / N
--    10 CONTINUE
--       PRINT *, 5
--    20 PRINT *, I
--       END
abbrev jump_over_statements : Program
jump_over_statements = program (integer "I" ∷ integer "N" ∷ [])
    (Assignment 1 None (to "I") (n 1)
    ∷ GoTo 2 20
    ∷ Assignment 3 None (to "I") (Binary Div (n 1) (v "N"))
    ∷ Do 4 (codes "I") (n 1) (Binary Div (n 9) (v "N")) (n 1) no_statements
    ∷ Print 6 (items (Single (n 5) ∷ []))
    ∷ Label 20
    ∷ Print 7 (items (Single (v "I") ∷ []))
    ∷ [])

jump_over_statements_written : (sequential_run Plain jump_over_statements []).written ≡ lines (" 1" ∷ [])
unfolding computed
jump_over_statements_written = refl

jump_over_statements_ending : ending (sequential_run Plain jump_over_statements []) ≡ Some Done
unfolding computed
jump_over_statements_ending = refl

jump_over_statements_steps : (sequential_run Plain jump_over_statements []).steps ≡ 4
unfolding computed
jump_over_statements_steps = refl

-- ---- a jump goes on at its own label alone
--       IF (K .EQ. 1) GO TO 10
--       GO TO 20
--    10 K = 1
--    20 PRINT *, K
--       END
abbrev jump_past_another_label : Program
jump_past_another_label = program (integer "K" ∷ [])
    (If 1 (arm (Binary Eq (v "K") (n 1)) (block
    (GoTo 1 10
    ∷ [])) no_arms) no_statements
    ∷ GoTo 2 20
    ∷ Label 10
    ∷ Assignment 3 None (to "K") (n 1)
    ∷ Label 20
    ∷ Print 4 (items (Single (v "K") ∷ []))
    ∷ [])

jump_past_another_label_written : (sequential_run Plain jump_past_another_label []).written ≡ lines (" 0" ∷ [])
unfolding computed
jump_past_another_label_written = refl

-- ---- a run that has stopped doesn't go on at a label
--       IF (K .EQ. 1) GO TO 20
--       PRINT *, 1
--       STOP
--    20 PRINT *, 2
--       END
abbrev stop_before_a_label : Program
stop_before_a_label = program (integer "K" ∷ [])
    (If 1 (arm (Binary Eq (v "K") (n 1)) (block
    (GoTo 1 20
    ∷ [])) no_arms) no_statements
    ∷ Print 2 (items (Single (n 1) ∷ []))
    ∷ Stop 3
    ∷ Label 20
    ∷ Print 4 (items (Single (n 2) ∷ []))
    ∷ [])

stop_before_a_label_written : (sequential_run Plain stop_before_a_label []).written ≡ lines (" 1" ∷ [])
unfolding computed
stop_before_a_label_written = refl

stop_before_a_label_ending : ending (sequential_run Plain stop_before_a_label []) ≡ Some Done
unfolding computed
stop_before_a_label_ending = refl

-- ---- nor does a fault
--       IF (K .EQ. 1) GO TO 20
--       PRINT *, 1 / K
--    20 PRINT *, 2
--       END
abbrev fault_before_a_label : Program
fault_before_a_label = program (integer "K" ∷ [])
    (If 1 (arm (Binary Eq (v "K") (n 1)) (block
    (GoTo 1 20
    ∷ [])) no_arms) no_statements
    ∷ Print 2 (items (Single (Binary Div (n 1) (v "K")) ∷ []))
    ∷ Label 20
    ∷ Print 3 (items (Single (n 2) ∷ []))
    ∷ [])

fault_before_a_label_written : (sequential_run Plain fault_before_a_label []).written ≡ []
unfolding computed
fault_before_a_label_written = refl

fault_before_a_label_ending : ending (sequential_run Plain fault_before_a_label []) ≡ Some (Fault ZeroDivide 2)
unfolding computed
fault_before_a_label_ending = refl

-- ---- a jump to the end of a loop goes on with its next turn
--       DO 10 I = 1, 4
--       IF (MOD(I, 2) .EQ. 0) GO TO 10
--       K = K + I
--    10 CONTINUE
--       PRINT *, K, I
--       END
abbrev jump_within_a_turn : Program
jump_within_a_turn = program (integer "I" ∷ integer "K" ∷ [])
    (Do 1 (codes "I") (n 1) (n 4) (n 1) (block
    (If 2 (arm (Binary Eq (Apply Mod (expressions (v "I" ∷ n 2 ∷ []))) (n 0)) (block
    (GoTo 2 10
    ∷ [])) no_arms) no_statements
    ∷ Assignment 3 None (to "K") (Binary Add (v "K") (v "I"))
    ∷ Label 10
    ∷ []))
    ∷ Print 5 (items (Single (v "K") ∷ Single (v "I") ∷ []))
    ∷ [])

jump_within_a_turn_written : (sequential_run Plain jump_within_a_turn []).written ≡ lines (" 4 5" ∷ [])
unfolding computed
jump_within_a_turn_written = refl

-- ---- a jump out of two loops leaves both variables as they are
--       DO 10 I = 1, 4
--       DO 10 J = 1, 4
--       IF (I * J .EQ. 6) GO TO 30
--    10 CONTINUE
--       PRINT *, 0
--    30 PRINT *, I, J
--       END
abbrev jump_out_of_two_loops : Program
jump_out_of_two_loops = program (integer "I" ∷ integer "J" ∷ [])
    (Do 1 (codes "I") (n 1) (n 4) (n 1) (block
    (Do 2 (codes "J") (n 1) (n 4) (n 1) (block
    (If 3 (arm (Binary Eq (Binary Mul (v "I") (v "J")) (n 6)) (block
    (GoTo 3 30
    ∷ [])) no_arms) no_statements
    ∷ []))
    ∷ []))
    ∷ Print 5 (items (Single (n 0) ∷ []))
    ∷ Label 30
    ∷ Print 6 (items (Single (v "I") ∷ Single (v "J") ∷ []))
    ∷ [])

jump_out_of_two_loops_written : (sequential_run Plain jump_out_of_two_loops []).written ≡ lines (" 2 3" ∷ [])
unfolding computed
jump_out_of_two_loops_written = refl

-- ---- STOP in a loop ends the run, and the variable hasn't grown
--       DO 10 I = 1, 4
--       IF (I .EQ. 3) STOP
--    10 CONTINUE
--       PRINT *, 0
--       END
abbrev stop_in_a_loop : Program
stop_in_a_loop = program (integer "I" ∷ [])
    (Do 1 (codes "I") (n 1) (n 4) (n 1) (block
    (If 2 (arm (Binary Eq (v "I") (n 3)) (block
    (Stop 2
    ∷ [])) no_arms) no_statements
    ∷ []))
    ∷ Print 4 (items (Single (n 0) ∷ []))
    ∷ [])

stop_in_a_loop_written : (sequential_run Plain stop_in_a_loop []).written ≡ []
unfolding computed
stop_in_a_loop_written = refl

stop_in_a_loop_ending : ending (sequential_run Plain stop_in_a_loop []) ≡ Some Done
unfolding computed
stop_in_a_loop_ending = refl

stop_in_a_loop_holds_i : (sequential_run Plain stop_in_a_loop []).store.held (cell "I" []) ≡ Int (pos 3)
unfolding computed
stop_in_a_loop_holds_i = refl

stop_in_a_loop_steps : (sequential_run Plain stop_in_a_loop []).steps ≡ 7
unfolding computed
stop_in_a_loop_steps = refl
