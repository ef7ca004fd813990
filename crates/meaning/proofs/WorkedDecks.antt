-- Worked decks: what each run writes and how it ends. Above each tree stands the deck that it is of.
use Rattle.std.proofs.Common.{◌≡◌, refl, [], ◌∷◌, pos, Some, None}
use lib.Chars.{codes}
use Rattle.tree.specs.Plain.{Unary, Binary, Apply, expressions, Single, Constant, items, Assignment, If, Do, Label, GoTo, Read, Print, no_arms, arm, block, no_statements, Program}
use Rattle.tree.specs.declared.ops.Op.TheVariants.{Pow, Mul, Div, Neg, Add, Sub, Eq, Ne}
use Rattle.tree.specs.declared.functions.Fun.TheVariants.{Mod}
use Rattle.tree.specs.declared.ops.Value.TheVariants.{Int}
use Rattle.tree.specs.declared.ops.Fault.TheVariants.{Overflow, Bounds, ZeroStep, TripCount, InputEnd, InputForm}
use Rattle.meaning.specs.declared.End.TheVariants.{Done, Fault, StepLimit}
use Rattle.meaning.specs.Sequential.{sequential_run, ending}
use Rattle.meaning.specs.Steps.{cut_at}
use Rattle.tree.specs.declared.width.Width.TheVariants.{Plain}
use Rattle.meaning.proofs.DeckWords.{computed, n, v, at, to, to_element, integer, logical, integers, program, lines, cell}

-- ---- a step limit of none, and of one
--       PRINT *, 7
--       END
abbrev prints_seven : Program
prints_seven = program []
    (Print 1 (items (Single (n 7) ∷ []))
    ∷ [])

prints_seven_written : (sequential_run Plain prints_seven []).written ≡ lines (" 7" ∷ [])
unfolding computed
prints_seven_written = refl

prints_seven_cut_0_written : (cut_at Plain 0 prints_seven []).written ≡ []
unfolding computed
prints_seven_cut_0_written = refl

prints_seven_cut_0_ending : ending (cut_at Plain 0 prints_seven []) ≡ Some StepLimit
unfolding computed
prints_seven_cut_0_ending = refl

prints_seven_cut_1_written : (cut_at Plain 1 prints_seven []).written ≡ lines (" 7" ∷ [])
unfolding computed
prints_seven_cut_1_written = refl

prints_seven_cut_1_ending : ending (cut_at Plain 1 prints_seven []) ≡ Some Done
unfolding computed
prints_seven_cut_1_ending = refl

-- ---- blanks have no meaning; 2 + 3 * (1 + 2) + 1 steps
--       INTEGER DO10I
--       DO10I=1
--       DO 10 I = 1, 3
--    10 DO10I = DO10I + I
--       PRINT *, DO10I, I
--       END
abbrev blanks_have_no_meaning : Program
blanks_have_no_meaning = program (integer "DO10I" ∷ integer "I" ∷ [])
    (Assignment 2 None (to "DO10I") (n 1)
    ∷ Do 3 (codes "I") (n 1) (n 3) (n 1) (block
    (Assignment 4 None (to "DO10I") (Binary Add (v "DO10I") (v "I"))
    ∷ []))
    ∷ Print 5 (items (Single (v "DO10I") ∷ Single (v "I") ∷ []))
    ∷ [])

blanks_have_no_meaning_written : (sequential_run Plain blanks_have_no_meaning []).written ≡ lines (" 7 4" ∷ [])
unfolding computed
blanks_have_no_meaning_written = refl

blanks_have_no_meaning_ending : ending (sequential_run Plain blanks_have_no_meaning []) ≡ Some Done
unfolding computed
blanks_have_no_meaning_ending = refl

blanks_have_no_meaning_steps : (sequential_run Plain blanks_have_no_meaning []).steps ≡ 12
unfolding computed
blanks_have_no_meaning_steps = refl

-- ---- guarded division
--       INTEGER A(5), B(5), C(5)
--       READ *, B, C
--       DO 10 I = 1, 5
--       IF (B(I) .NE. 0) A(I) = C(I) / B(I)
--    10 CONTINUE
--       PRINT *, A
--       END
-- *DATA
-- 2 0 -3 0 5
-- 9 9 9 9 9
abbrev guarded_division : Program
guarded_division = program (integers "A" ((pos 1, pos 5) ∷ []) ∷ integers "B" ((pos 1, pos 5) ∷ []) ∷ integers "C" ((pos 1, pos 5) ∷ []) ∷ integer "I" ∷ [])
    (Read 2 (items (Single (v "B") ∷ Single (v "C") ∷ []))
    ∷ Do 3 (codes "I") (n 1) (n 5) (n 1) (block
    (If 4 (arm (Binary Ne (at "B" (v "I" ∷ [])) (n 0)) (block
    (Assignment 4 None (to_element "A" (v "I" ∷ [])) (Binary Div (at "C" (v "I" ∷ [])) (at "B" (v "I" ∷ [])))
    ∷ [])) no_arms) no_statements
    ∷ []))
    ∷ Print 6 (items (Single (v "A") ∷ []))
    ∷ [])

guarded_division_written : (sequential_run Plain guarded_division (lines ("2 0 -3 0 5" ∷ "9 9 9 9 9" ∷ []))).written ≡ lines (" 4 0 -3 0 1" ∷ [])
unfolding computed
guarded_division_written = refl

guarded_division_ending : ending (sequential_run Plain guarded_division (lines ("2 0 -3 0 5" ∷ "9 9 9 9 9" ∷ []))) ≡ Some Done
unfolding computed
guarded_division_ending = refl

-- ---- zero trips
--       INTEGER A(3), B(3)
--       READ *, N
--       DO 10 I = 1, N
--    10 A(I) = 10 / N + B(I+3)
--       PRINT *, I, A
--       END
-- *DATA
-- 0
abbrev zero_trips : Program
zero_trips = program (integers "A" ((pos 1, pos 3) ∷ []) ∷ integers "B" ((pos 1, pos 3) ∷ []) ∷ integer "I" ∷ integer "N" ∷ [])
    (Read 2 (items (Single (v "N") ∷ []))
    ∷ Do 3 (codes "I") (n 1) (v "N") (n 1) (block
    (Assignment 4 None (to_element "A" (v "I" ∷ [])) (Binary Add (Binary Div (n 10) (v "N")) (at "B" (Binary Add (v "I") (n 3) ∷ [])))
    ∷ []))
    ∷ Print 5 (items (Single (v "I") ∷ Single (v "A") ∷ []))
    ∷ [])

zero_trips_written : (sequential_run Plain zero_trips (lines ("0" ∷ []))).written ≡ lines (" 1 0 0 0" ∷ [])
unfolding computed
zero_trips_written = refl

zero_trips_ending : ending (sequential_run Plain zero_trips (lines ("0" ∷ []))) ≡ Some Done
unfolding computed
zero_trips_ending = refl

-- ---- a loop left by GO TO
--       INTEGER A(5)
--       A(3) = 7
--       DO 20 I = 1, 5
--       IF (A(I) .EQ. 7) GO TO 30
--    20 CONTINUE
--    30 PRINT *, I
--       END
abbrev loop_left_by_go_to : Program
loop_left_by_go_to = program (integers "A" ((pos 1, pos 5) ∷ []) ∷ integer "I" ∷ [])
    (Assignment 2 None (to_element "A" (n 3 ∷ [])) (n 7)
    ∷ Do 3 (codes "I") (n 1) (n 5) (n 1) (block
    (If 4 (arm (Binary Eq (at "A" (v "I" ∷ [])) (n 7)) (block
    (GoTo 4 30
    ∷ [])) no_arms) no_statements
    ∷ []))
    ∷ Label 30
    ∷ Print 6 (items (Single (v "I") ∷ []))
    ∷ [])

loop_left_by_go_to_written : (sequential_run Plain loop_left_by_go_to []).written ≡ lines (" 3" ∷ [])
unfolding computed
loop_left_by_go_to_written = refl

loop_left_by_go_to_ending : ending (sequential_run Plain loop_left_by_go_to []) ≡ Some Done
unfolding computed
loop_left_by_go_to_ending = refl

-- ---- a number outside the range of INTEGER within an expression, and stored
--       I = 2147483647
--       J = I + 1 - 2
--       PRINT *, J
--       I = I + 1
--       END
abbrev overflow_at_a_store : Program
overflow_at_a_store = program (integer "I" ∷ integer "J" ∷ [])
    (Assignment 1 None (to "I") (n 2147483647)
    ∷ Assignment 2 None (to "J") (Binary Sub (Binary Add (v "I") (n 1)) (n 2))
    ∷ Print 3 (items (Single (v "J") ∷ []))
    ∷ Assignment 4 None (to "I") (Binary Add (v "I") (n 1))
    ∷ [])

overflow_at_a_store_written : (sequential_run Plain overflow_at_a_store []).written ≡ lines (" 2147483646" ∷ [])
unfolding computed
overflow_at_a_store_written = refl

overflow_at_a_store_ending : ending (sequential_run Plain overflow_at_a_store []) ≡ Some (Fault Overflow 4)
unfolding computed
overflow_at_a_store_ending = refl

-- ---- a subscript out of bounds
--       INTEGER A(10)
--       PRINT *, 1
--       A(11) = 1
--       END
abbrev subscript_out_of_bounds : Program
subscript_out_of_bounds = program (integers "A" ((pos 1, pos 10) ∷ []) ∷ [])
    (Print 2 (items (Single (n 1) ∷ []))
    ∷ Assignment 3 None (to_element "A" (n 11 ∷ [])) (n 1)
    ∷ [])

subscript_out_of_bounds_written : (sequential_run Plain subscript_out_of_bounds []).written ≡ lines (" 1" ∷ [])
unfolding computed
subscript_out_of_bounds_written = refl

subscript_out_of_bounds_ending : ending (sequential_run Plain subscript_out_of_bounds []) ≡ Some (Fault Bounds 3)
unfolding computed
subscript_out_of_bounds_ending = refl

-- ---- an increment of 0
--       DO 10 I = 1, 5, J
--    10 CONTINUE
--       END
abbrev increment_of_zero : Program
increment_of_zero = program (integer "I" ∷ integer "J" ∷ [])
    (Do 1 (codes "I") (n 1) (n 5) (v "J") no_statements
    ∷ [])

increment_of_zero_ending : ending (sequential_run Plain increment_of_zero []) ≡ Some (Fault ZeroStep 1)
unfolding computed
increment_of_zero_ending = refl

-- ---- the input runs out
--       READ *, I, J
--       END
-- *DATA
-- 5
abbrev input_runs_out : Program
input_runs_out = program (integer "I" ∷ integer "J" ∷ [])
    (Read 1 (items (Single (v "I") ∷ Single (v "J") ∷ []))
    ∷ [])

input_runs_out_ending : ending (sequential_run Plain input_runs_out (lines ("5" ∷ []))) ≡ Some (Fault InputEnd 1)
unfolding computed
input_runs_out_ending = refl

-- ---- two commas between two values
--       READ *, I, J
--       END
-- *DATA
-- 1,,2
abbrev two_commas : Program
two_commas = program (integer "I" ∷ integer "J" ∷ [])
    (Read 1 (items (Single (v "I") ∷ Single (v "J") ∷ []))
    ∷ [])

two_commas_ending : ending (sequential_run Plain two_commas (lines ("1,,2" ∷ []))) ≡ Some (Fault InputForm 1)
unfolding computed
two_commas_ending = refl

-- ---- a trip count above 2147483646; the variable has its first value
--       DO 10 I = 1, 2147483647
--    10 CONTINUE
--       END
abbrev too_many_trips : Program
too_many_trips = program (integer "I" ∷ [])
    (Do 1 (codes "I") (n 1) (n 2147483647) (n 1) no_statements
    ∷ [])

too_many_trips_ending : ending (sequential_run Plain too_many_trips []) ≡ Some (Fault TripCount 1)
unfolding computed
too_many_trips_ending = refl

too_many_trips_holds_i : (sequential_run Plain too_many_trips []).store.held (cell "I" []) ≡ Int (pos 1)
unfolding computed
too_many_trips_holds_i = refl

-- ---- logical and arithmetic output
--       LOGICAL L
--       READ *, L, I
--       PRINT *, 'L =', L, -I / 2 ** 2, MOD(-7, 3)
--       END
-- *DATA
-- .TRUE., 9
abbrev logical_output : Program
logical_output = program (integer "I" ∷ logical "L" ∷ [])
    (Read 2 (items (Single (v "L") ∷ Single (v "I") ∷ []))
    ∷ Print 3 (items (Constant (codes "L =") ∷ Single (v "L") ∷ Single (Unary Neg (Binary Div (v "I") (Binary Pow (n 2) (n 2)))) ∷ Single (Apply Mod (expressions (Unary Neg (n 7) ∷ n 3 ∷ []))) ∷ []))
    ∷ [])

logical_output_written : (sequential_run Plain logical_output (lines (".TRUE., 9" ∷ []))).written ≡ lines (" L = T -2 -1" ∷ [])
unfolding computed
logical_output_written = refl

logical_output_ending : ending (sequential_run Plain logical_output (lines (".TRUE., 9" ∷ []))) ≡ Some Done
unfolding computed
logical_output_ending = refl

-- ---- a loop cut after three steps, and whole at seven
--       DO 10 I = 1, 2
--    10 K = K + 1
--       PRINT *, K
--       END
abbrev counting_loop : Program
counting_loop = program (integer "I" ∷ integer "K" ∷ [])
    (Do 1 (codes "I") (n 1) (n 2) (n 1) (block
    (Assignment 2 None (to "K") (Binary Add (v "K") (n 1))
    ∷ []))
    ∷ Print 3 (items (Single (v "K") ∷ []))
    ∷ [])

counting_loop_cut_3_ending : ending (cut_at Plain 3 counting_loop []) ≡ Some StepLimit
unfolding computed
counting_loop_cut_3_ending = refl

counting_loop_cut_3_holds_k : (cut_at Plain 3 counting_loop []).store.held (cell "K" []) ≡ Int (pos 1)
unfolding computed
counting_loop_cut_3_holds_k = refl

counting_loop_cut_7_written : (cut_at Plain 7 counting_loop []).written ≡ lines (" 2" ∷ [])
unfolding computed
counting_loop_cut_7_written = refl

counting_loop_cut_7_ending : ending (cut_at Plain 7 counting_loop []) ≡ Some Done
unfolding computed
counting_loop_cut_7_ending = refl

counting_loop_steps : (sequential_run Plain counting_loop []).steps ≡ 7
unfolding computed
counting_loop_steps = refl

-- ---- a scalar counted in a loop
--       INTEGER A(40), B(20), T
--       K = 2147483607
--       DO 10 I = 1, 20
--       K = K + 2
--       T = B(I) + I
--    10 A(K-2147483607) = T * T
--       PRINT *, K, T, A(40)
--       END
abbrev induction : Program
induction = program (integers "A" ((pos 1, pos 40) ∷ []) ∷ integers "B" ((pos 1, pos 20) ∷ []) ∷ integer "I" ∷ integer "K" ∷ integer "T" ∷ [])
    (Assignment 2 None (to "K") (n 2147483607)
    ∷ Do 3 (codes "I") (n 1) (n 20) (n 1) (block
    (Assignment 4 None (to "K") (Binary Add (v "K") (n 2))
    ∷ Assignment 5 None (to "T") (Binary Add (at "B" (v "I" ∷ [])) (v "I"))
    ∷ Assignment 6 None (to_element "A" (Binary Sub (v "K") (n 2147483607) ∷ [])) (Binary Mul (v "T") (v "T"))
    ∷ []))
    ∷ Print 7 (items (Single (v "K") ∷ Single (v "T") ∷ Single (at "A" (n 40 ∷ [])) ∷ []))
    ∷ [])

induction_written : (sequential_run Plain induction []).written ≡ lines (" 2147483647 20 400" ∷ [])
unfolding computed
induction_written = refl
