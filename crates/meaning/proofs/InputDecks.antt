-- Worked decks on input, output, steps and the final store.
use Rattle.std.proofs.Common.{◌≡◌, refl, [], ◌∷◌, pos, Some, None, true, false, ◌++◌}
use lib.Chars.{codes}
use Rattle.tree.specs.Plain.{Logic, Unary, Binary, Single, Constant, ImpliedDo, items, Assignment, Do, Label, GoTo, Read, Print, block, Program}
use Rattle.tree.specs.declared.ops.Op.TheVariants.{Div, Neg, Add, Sub}
use Rattle.tree.specs.declared.ops.Value.TheVariants.{Int}
use Rattle.tree.specs.declared.ops.Fault.TheVariants.{Overflow, ZeroDivide, InputEnd, InputForm}
use Rattle.meaning.specs.declared.End.TheVariants.{Done, Fault, StepLimit}
use Rattle.meaning.specs.Sequential.{sequential_run, ending}
use Rattle.meaning.specs.Steps.{cut_at, final_lines, is_source_name}
use Rattle.tree.specs.declared.width.Width.TheVariants.{Plain}
use Rattle.meaning.proofs.DeckWords.{computed, n, v, at, to, to_element, integer, logical, integers, logicals, program, lines, cell}

-- ---- a PRINT without items writes one blank, a READ without items takes one line
--       READ *
--       PRINT *
--       READ *, I
--       PRINT *, I
--       END
-- *DATA
-- 1
-- 2
abbrev empty_lists : Program
empty_lists = program (integer "I" ∷ [])
    (Read 1 (items [])
    ∷ Print 2 (items [])
    ∷ Read 3 (items (Single (v "I") ∷ []))
    ∷ Print 4 (items (Single (v "I") ∷ []))
    ∷ [])

empty_lists_written : (sequential_run Plain empty_lists (lines ("1" ∷ "2" ∷ []))).written ≡ lines (" " ∷ " 2" ∷ [])
unfolding computed
empty_lists_written = refl

empty_lists_ending : ending (sequential_run Plain empty_lists (lines ("1" ∷ "2" ∷ []))) ≡ Some Done
unfolding computed
empty_lists_ending = refl

-- ---- what a PRINT wrote before a fault stays, without the line's end
--       PRINT *, 1
--       PRINT *, 2, 'X', 1 / N, 3
--       END
abbrev line_broken_by_a_fault : Program
line_broken_by_a_fault = program (integer "N" ∷ [])
    (Print 1 (items (Single (n 1) ∷ []))
    ∷ Print 2 (items (Single (n 2) ∷ Constant (codes "X") ∷ Single (Binary Div (n 1) (v "N")) ∷ Single (n 3) ∷ []))
    ∷ [])

line_broken_by_a_fault_written : (sequential_run Plain line_broken_by_a_fault []).written ≡ (lines (" 1" ∷ [])) ++ codes " 2X"
unfolding computed
line_broken_by_a_fault_written = refl

line_broken_by_a_fault_ending : ending (sequential_run Plain line_broken_by_a_fault []) ≡ Some (Fault ZeroDivide 2)
unfolding computed
line_broken_by_a_fault_ending = refl

-- ---- what a PRINT wrote before the step limit stays, without the line's end
--       PRINT *, (I, I = 1, 9)
--       END
abbrev line_broken_by_the_limit : Program
line_broken_by_the_limit = program (integer "I" ∷ [])
    (Print 1 (items (ImpliedDo (items (Single (v "I") ∷ [])) (codes "I") (n 1) (n 9) (n 1) ∷ []))
    ∷ [])

line_broken_by_the_limit_cut_3_written : (cut_at Plain 3 line_broken_by_the_limit []).written ≡ codes " 1 2"
unfolding computed
line_broken_by_the_limit_cut_3_written = refl

line_broken_by_the_limit_cut_3_ending : ending (cut_at Plain 3 line_broken_by_the_limit []) ≡ Some StepLimit
unfolding computed
line_broken_by_the_limit_cut_3_ending = refl

line_broken_by_the_limit_cut_3_steps : (cut_at Plain 3 line_broken_by_the_limit []).steps ≡ 3
unfolding computed
line_broken_by_the_limit_cut_3_steps = refl

line_broken_by_the_limit_cut_3_holds_i : (cut_at Plain 3 line_broken_by_the_limit []).store.held (cell "I" []) ≡ Int (pos 3)
unfolding computed
line_broken_by_the_limit_cut_3_holds_i = refl

-- ---- one blank comes before a list that begins with a constant
--       PRINT *, 'A', 1, 'B'
--       PRINT *, 1, 'A'
--       END
abbrev constant_first : Program
constant_first = program []
    (Print 1 (items (Constant (codes "A") ∷ Single (n 1) ∷ Constant (codes "B") ∷ []))
    ∷ Print 2 (items (Single (n 1) ∷ Constant (codes "A") ∷ []))
    ∷ [])

constant_first_written : (sequential_run Plain constant_first []).written ≡ lines (" A 1B" ∷ " 1A" ∷ [])
unfolding computed
constant_first_written = refl

constant_first_cut_0_written : (cut_at Plain 0 constant_first []).written ≡ []
unfolding computed
constant_first_cut_0_written = refl

-- ---- the first item is that of the list itself
--       PRINT *, ('A', I = 1, 2)
--       PRINT *, (I, I = 1, 0), 'B'
--       END
abbrev constant_in_an_implied_do : Program
constant_in_an_implied_do = program (integer "I" ∷ [])
    (Print 1 (items (ImpliedDo (items (Constant (codes "A") ∷ [])) (codes "I") (n 1) (n 2) (n 1) ∷ []))
    ∷ Print 2 (items (ImpliedDo (items (Single (v "I") ∷ [])) (codes "I") (n 1) (n 0) (n 1) ∷ Constant (codes "B") ∷ []))
    ∷ [])

constant_in_an_implied_do_written : (sequential_run Plain constant_in_an_implied_do []).written ≡ lines ("AA" ∷ "B" ∷ [])
unfolding computed
constant_in_an_implied_do_written = refl

-- ---- implied DO lists in input and output
--       INTEGER A(3), B(2,2)
--       READ *, N, (A(I), I = 1, N), ((B(I,J), J = 1, 2), I = 1, 2)
--       PRINT *, (A(I), I = 3, 1, -1), (I, A(I), I = 2, 3)
--       PRINT *, B, I, J
--       END
-- *DATA
-- 3 7 8 9
-- 1 2 3 4
abbrev implied_do_lists : Program
implied_do_lists = program (integers "A" ((pos 1, pos 3) ∷ []) ∷ integers "B" ((pos 1, pos 2) ∷ (pos 1, pos 2) ∷ []) ∷ integer "I" ∷ integer "J" ∷ integer "N" ∷ [])
    (Read 2 (items (Single (v "N") ∷ ImpliedDo (items (Single (at "A" (v "I" ∷ [])) ∷ [])) (codes "I") (n 1) (v "N") (n 1) ∷ ImpliedDo (items (ImpliedDo (items (Single (at "B" (v "I" ∷ v "J" ∷ [])) ∷ [])) (codes "J") (n 1) (n 2) (n 1) ∷ [])) (codes "I") (n 1) (n 2) (n 1) ∷ []))
    ∷ Print 3 (items (ImpliedDo (items (Single (at "A" (v "I" ∷ [])) ∷ [])) (codes "I") (n 3) (n 1) (Unary Neg (n 1)) ∷ ImpliedDo (items (Single (v "I") ∷ Single (at "A" (v "I" ∷ [])) ∷ [])) (codes "I") (n 2) (n 3) (n 1) ∷ []))
    ∷ Print 4 (items (Single (v "B") ∷ Single (v "I") ∷ Single (v "J") ∷ []))
    ∷ [])

implied_do_lists_written : (sequential_run Plain implied_do_lists (lines ("3 7 8 9" ∷ "1 2 3 4" ∷ []))).written ≡ lines (" 9 8 7 2 8 3 9" ∷ " 1 3 2 4 4 3" ∷ [])
unfolding computed
implied_do_lists_written = refl

implied_do_lists_steps : (sequential_run Plain implied_do_lists (lines ("3 7 8 9" ∷ "1 2 3 4" ∷ []))).steps ≡ 25
unfolding computed
implied_do_lists_steps = refl

-- ---- an array's name stands for its elements in column-major order
--       INTEGER A(2,3)
--       READ *, A
--       READ *, N
--       PRINT *, A(1,1), A(2,1), A(1,2), A(2,3), N
--       END
-- *DATA
-- 1 2 3
-- 4 5 6 99
-- 7
abbrev arrays_in_lists : Program
arrays_in_lists = program (integers "A" ((pos 1, pos 2) ∷ (pos 1, pos 3) ∷ []) ∷ integer "N" ∷ [])
    (Read 2 (items (Single (v "A") ∷ []))
    ∷ Read 3 (items (Single (v "N") ∷ []))
    ∷ Print 4 (items (Single (at "A" (n 1 ∷ n 1 ∷ [])) ∷ Single (at "A" (n 2 ∷ n 1 ∷ [])) ∷ Single (at "A" (n 1 ∷ n 2 ∷ [])) ∷ Single (at "A" (n 2 ∷ n 3 ∷ [])) ∷ Single (v "N") ∷ []))
    ∷ [])

arrays_in_lists_written : (sequential_run Plain arrays_in_lists (lines ("1 2 3" ∷ "4 5 6 99" ∷ "7" ∷ []))).written ≡ lines (" 1 2 3 6 7" ∷ [])
unfolding computed
arrays_in_lists_written = refl

arrays_in_lists_steps : (sequential_run Plain arrays_in_lists (lines ("1 2 3" ∷ "4 5 6 99" ∷ "7" ∷ []))).steps ≡ 10
unfolding computed
arrays_in_lists_steps = refl

-- ---- the rest of the last line of a READ is passed over, and not looked at
--       READ *, I
--       READ *, J
--       PRINT *, I, J
--       END
-- *DATA
-- 1 2 ,, X
-- 3
abbrev rest_of_the_line : Program
rest_of_the_line = program (integer "I" ∷ integer "J" ∷ [])
    (Read 1 (items (Single (v "I") ∷ []))
    ∷ Read 2 (items (Single (v "J") ∷ []))
    ∷ Print 3 (items (Single (v "I") ∷ Single (v "J") ∷ []))
    ∷ [])

rest_of_the_line_written : (sequential_run Plain rest_of_the_line (lines ("1 2 ,, X" ∷ "3" ∷ []))).written ≡ lines (" 1 3" ∷ [])
unfolding computed
rest_of_the_line_written = refl

rest_of_the_line_ending : ending (sequential_run Plain rest_of_the_line (lines ("1 2 ,, X" ∷ "3" ∷ []))) ≡ Some Done
unfolding computed
rest_of_the_line_ending = refl

-- ---- a READ goes on to further lines, with one comma between two values
--       READ *, I, J, K
--       PRINT *, I, J, K
--       END
-- *DATA
--   +1 ,
--
-- <TAB>-2
--  ,3
abbrev values_on_further_lines : Program
values_on_further_lines = program (integer "I" ∷ integer "J" ∷ integer "K" ∷ [])
    (Read 1 (items (Single (v "I") ∷ Single (v "J") ∷ Single (v "K") ∷ []))
    ∷ Print 2 (items (Single (v "I") ∷ Single (v "J") ∷ Single (v "K") ∷ []))
    ∷ [])

values_on_further_lines_written : (sequential_run Plain values_on_further_lines (codes "  +1 ," ++ (10 ∷ []) ++ (10 ∷ []) ++ (9 ∷ []) ++ codes "-2" ++ (10 ∷ []) ++ codes " ,3")).written ≡ lines (" 1 -2 3" ∷ [])
unfolding computed
values_on_further_lines_written = refl

-- ---- commas are counted over line ends
--       READ *, I, J
--       END
-- *DATA
-- 1,
-- ,2
abbrev comma_over_lines : Program
comma_over_lines = program (integer "I" ∷ integer "J" ∷ [])
    (Read 1 (items (Single (v "I") ∷ Single (v "J") ∷ []))
    ∷ [])

comma_over_lines_ending : ending (sequential_run Plain comma_over_lines (lines ("1," ∷ ",2" ∷ []))) ≡ Some (Fault InputForm 1)
unfolding computed
comma_over_lines_ending = refl

-- ---- no comma comes before the first value of a READ
--       READ *, I, J
--       READ *, I
--       END
-- *DATA
-- 1,2
-- ,3
abbrev comma_before_the_first_value : Program
comma_before_the_first_value = program (integer "I" ∷ integer "J" ∷ [])
    (Read 1 (items (Single (v "I") ∷ Single (v "J") ∷ []))
    ∷ Read 2 (items (Single (v "I") ∷ []))
    ∷ [])

comma_before_the_first_value_ending : ending (sequential_run Plain comma_before_the_first_value (lines ("1,2" ∷ ",3" ∷ []))) ≡ Some (Fault InputForm 2)
unfolding computed
comma_before_the_first_value_ending = refl

-- ---- the line that a READ begins at comes before any fault of its list
--       INTEGER A(3)
--       READ *, A(1 / N)
--       END
abbrev needed_line : Program
needed_line = program (integers "A" ((pos 1, pos 3) ∷ []) ∷ integer "N" ∷ [])
    (Read 2 (items (Single (at "A" (Binary Div (n 1) (v "N") ∷ [])) ∷ []))
    ∷ [])

needed_line_ending : ending (sequential_run Plain needed_line []) ≡ Some (Fault InputEnd 2)
unfolding computed
needed_line_ending = refl

needed_line_cut_0_ending : ending (cut_at Plain 0 needed_line []) ≡ Some StepLimit
unfolding computed
needed_line_cut_0_ending = refl

-- ---- an item's subscripts come before its value is read
--       INTEGER A(3)
--       READ *, A(1 / N)
--       END
-- *DATA
-- X
abbrev subscripts_before_value : Program
subscripts_before_value = program (integers "A" ((pos 1, pos 3) ∷ []) ∷ integer "N" ∷ [])
    (Read 2 (items (Single (at "A" (Binary Div (n 1) (v "N") ∷ [])) ∷ []))
    ∷ [])

subscripts_before_value_ending : ending (sequential_run Plain subscripts_before_value (lines ("X" ∷ []))) ≡ Some (Fault ZeroDivide 2)
unfolding computed
subscripts_before_value_ending = refl

-- ---- a number outside the range of INTEGER
--       READ *, I
--       END
-- *DATA
-- -2147483649
abbrev number_out_of_range : Program
number_out_of_range = program (integer "I" ∷ [])
    (Read 1 (items (Single (v "I") ∷ []))
    ∷ [])

number_out_of_range_ending : ending (sequential_run Plain number_out_of_range (lines ("-2147483649" ∷ []))) ≡ Some (Fault Overflow 1)
unfolding computed
number_out_of_range_ending = refl

-- ---- the least INTEGER
--       READ *, I
--       PRINT *, I
--       END
-- *DATA
-- -2147483648
abbrev least_number : Program
least_number = program (integer "I" ∷ [])
    (Read 1 (items (Single (v "I") ∷ []))
    ∷ Print 2 (items (Single (v "I") ∷ []))
    ∷ [])

least_number_written : (sequential_run Plain least_number (lines ("-2147483648" ∷ []))).written ≡ lines (" -2147483648" ∷ [])
unfolding computed
least_number_written = refl

-- ---- the form of a number comes before its range
--       READ *, I
--       END
-- *DATA
-- 99999999999X
abbrev form_before_range : Program
form_before_range = program (integer "I" ∷ [])
    (Read 1 (items (Single (v "I") ∷ []))
    ∷ [])

form_before_range_ending : ending (sequential_run Plain form_before_range (lines ("99999999999X" ∷ []))) ≡ Some (Fault InputForm 1)
unfolding computed
form_before_range_ending = refl

-- ---- a sign has digits after it
--       READ *, I
--       END
-- *DATA
-- -
abbrev sign_alone : Program
sign_alone = program (integer "I" ∷ [])
    (Read 1 (items (Single (v "I") ∷ []))
    ∷ [])

sign_alone_ending : ending (sequential_run Plain sign_alone (lines ("-" ∷ []))) ≡ Some (Fault InputForm 1)
unfolding computed
sign_alone_ending = refl

-- ---- each item is stored before the next one is looked at
--       INTEGER A(3)
--       READ *, I, A(I), J
--       END
-- *DATA
-- 2 5 X
abbrev item_stored_before_the_next : Program
item_stored_before_the_next = program (integers "A" ((pos 1, pos 3) ∷ []) ∷ integer "I" ∷ integer "J" ∷ [])
    (Read 2 (items (Single (v "I") ∷ Single (at "A" (v "I" ∷ [])) ∷ Single (v "J") ∷ []))
    ∷ [])

item_stored_before_the_next_ending : ending (sequential_run Plain item_stored_before_the_next (lines ("2 5 X" ∷ []))) ≡ Some (Fault InputForm 2)
unfolding computed
item_stored_before_the_next_ending = refl

item_stored_before_the_next_holds_a_2 : (sequential_run Plain item_stored_before_the_next (lines ("2 5 X" ∷ []))).store.held (cell "A" (pos 2 ∷ [])) ≡ Int (pos 5)
unfolding computed
item_stored_before_the_next_holds_a_2 = refl

-- ---- LOGICAL values in the input
--       LOGICAL L(6)
--       READ *, L
--       PRINT *, L
--       END
-- *DATA
-- T .f tRUE .FALSE. Fx1 .t.
abbrev logical_input : Program
logical_input = program (logicals "L" ((pos 1, pos 6) ∷ []) ∷ [])
    (Read 2 (items (Single (v "L") ∷ []))
    ∷ Print 3 (items (Single (v "L") ∷ []))
    ∷ [])

logical_input_written : (sequential_run Plain logical_input (lines ("T .f tRUE .FALSE. Fx1 .t." ∷ []))).written ≡ lines (" T F T F F T" ∷ [])
unfolding computed
logical_input_written = refl

-- ---- a LOGICAL value has no slash
--       LOGICAL L
--       READ *, L
--       END
-- *DATA
-- T/
abbrev slash_in_a_logical : Program
slash_in_a_logical = program (logical "L" ∷ [])
    (Read 2 (items (Single (v "L") ∷ []))
    ∷ [])

slash_in_a_logical_ending : ending (sequential_run Plain slash_in_a_logical (lines ("T/" ∷ []))) ≡ Some (Fault InputForm 2)
unfolding computed
slash_in_a_logical_ending = refl

-- ---- a CR just before the end of a line is dropped
--       READ *, I
--       READ *, J
--       PRINT *, I, J
--       END
-- *DATA
-- 1<CR>
-- 2<CR>
abbrev line_ends : Program
line_ends = program (integer "I" ∷ integer "J" ∷ [])
    (Read 1 (items (Single (v "I") ∷ []))
    ∷ Read 2 (items (Single (v "J") ∷ []))
    ∷ Print 3 (items (Single (v "I") ∷ Single (v "J") ∷ []))
    ∷ [])

line_ends_written : (sequential_run Plain line_ends (codes "1" ++ (13 ∷ []) ++ (10 ∷ []) ++ codes "2" ++ (13 ∷ []) ++ (10 ∷ []))).written ≡ lines (" 1 2" ∷ [])
unfolding computed
line_ends_written = refl

-- ---- a CR anywhere else is a byte like others
--       READ *, I
--       END
-- *DATA
-- 1<CR> 2
abbrev carriage_return_within_a_line : Program
carriage_return_within_a_line = program (integer "I" ∷ [])
    (Read 1 (items (Single (v "I") ∷ []))
    ∷ [])

carriage_return_within_a_line_ending : ending (sequential_run Plain carriage_return_within_a_line (codes "1" ++ (13 ∷ []) ++ codes " 2" ++ (10 ∷ []))) ≡ Some (Fault InputForm 1)
unfolding computed
carriage_return_within_a_line_ending = refl

-- ---- each element stored is a step: 1 + 3 for the READ, 1 + 1 for the assignment
--       INTEGER A(3)
--       READ *, A
--       A(2) = 9
--       END
-- *DATA
-- 1 2 3
abbrev steps_of_stores : Program
steps_of_stores = program (integers "A" ((pos 1, pos 3) ∷ []) ∷ [])
    (Read 2 (items (Single (v "A") ∷ []))
    ∷ Assignment 3 None (to_element "A" (n 2 ∷ [])) (n 9)
    ∷ [])

steps_of_stores_steps : (sequential_run Plain steps_of_stores (lines ("1 2 3" ∷ []))).steps ≡ 6
unfolding computed
steps_of_stores_steps = refl

steps_of_stores_cut_3_holds_a_2 : (cut_at Plain 3 steps_of_stores (lines ("1 2 3" ∷ []))).store.held (cell "A" (pos 2 ∷ [])) ≡ Int (pos 2)
unfolding computed
steps_of_stores_cut_3_holds_a_2 = refl

steps_of_stores_cut_3_holds_a_3 : (cut_at Plain 3 steps_of_stores (lines ("1 2 3" ∷ []))).store.held (cell "A" (pos 3 ∷ [])) ≡ Int (pos 0)
unfolding computed
steps_of_stores_cut_3_holds_a_3 = refl

steps_of_stores_cut_5_holds_a_2 : (cut_at Plain 5 steps_of_stores (lines ("1 2 3" ∷ []))).store.held (cell "A" (pos 2 ∷ [])) ≡ Int (pos 2)
unfolding computed
steps_of_stores_cut_5_holds_a_2 = refl

-- ---- a fault of an implied DO has the line of its statement
--       PRINT *,
--      1(I, I = 2147483647, 2147483647)
--       PRINT *, (I, I = 1, 2, N)
--       END
abbrev growth_in_an_output_list : Program
growth_in_an_output_list = program (integer "I" ∷ integer "N" ∷ [])
    (Print 1 (items (ImpliedDo (items (Single (v "I") ∷ [])) (codes "I") (n 2147483647) (n 2147483647) (n 1) ∷ []))
    ∷ Print 3 (items (ImpliedDo (items (Single (v "I") ∷ [])) (codes "I") (n 1) (n 2) (v "N") ∷ []))
    ∷ [])

growth_in_an_output_list_ending : ending (sequential_run Plain growth_in_an_output_list []) ≡ Some (Fault Overflow 1)
unfolding computed
growth_in_an_output_list_ending = refl

growth_in_an_output_list_written : (sequential_run Plain growth_in_an_output_list []).written ≡ codes " 2147483647"
unfolding computed
growth_in_an_output_list_written = refl

-- ---- the lines of the final store
--       INTEGER A(0:1,2), K
--       LOGICAL L
--       A(1,2) = -7
--       L = .TRUE.
--       K = 3
--       END
abbrev final_store : Program
final_store = program (integers "A" ((pos 0, pos 1) ∷ (pos 1, pos 2) ∷ []) ∷ integer "K" ∷ logical "L" ∷ [])
    (Assignment 3 None (to_element "A" (n 1 ∷ n 2 ∷ [])) (Unary Neg (n 7))
    ∷ Assignment 4 None (to "L") (Logic true)
    ∷ Assignment 5 None (to "K") (n 3)
    ∷ [])

final_store_final : final_lines final_store (sequential_run Plain final_store []).store ≡ lines ("A(0,1) = 0" ∷ "A(1,1) = 0" ∷ "A(0,2) = 0" ∷ "A(1,2) = -7" ∷ "K = 3" ∷ "L = T" ∷ [])
unfolding computed
final_store_final = refl

-- ---- a relaxation over a grid
--       PROGRAM RELAX
--       PARAMETER (N = 4)
--       INTEGER U(0:N,0:N), V(0:N,0:N)
--       DO 10 I = 0, N
--    10 U(I,0) = 64
--       DO 30 ITER = 1, 2
--       DO 20 J = 1, N - 1
--       DO 20 I = 1, N - 1
--    20 V(I,J) = (U(I-1,J) + U(I+1,J) + U(I,J-1) + U(I,J+1)) / 4
--       DO 30 J = 1, N - 1
--       DO 30 I = 1, N - 1
--    30 U(I,J) = V(I,J)
--       PRINT *, (U(I,1), I = 0, N)
--       END
abbrev realistic_sweep : Program
realistic_sweep = program (integer "I" ∷ integer "ITER" ∷ integer "J" ∷ integers "U" ((pos 0, pos 4) ∷ (pos 0, pos 4) ∷ []) ∷ integers "V" ((pos 0, pos 4) ∷ (pos 0, pos 4) ∷ []) ∷ [])
    (Do 4 (codes "I") (n 0) (n 4) (n 1) (block
    (Assignment 5 None (to_element "U" (v "I" ∷ n 0 ∷ [])) (n 64)
    ∷ []))
    ∷ Do 6 (codes "ITER") (n 1) (n 2) (n 1) (block
    (Do 7 (codes "J") (n 1) (Binary Sub (n 4) (n 1)) (n 1) (block
    (Do 8 (codes "I") (n 1) (Binary Sub (n 4) (n 1)) (n 1) (block
    (Assignment 9 None (to_element "V" (v "I" ∷ v "J" ∷ [])) (Binary Div (Binary Add (Binary Add (Binary Add (at "U" (Binary Sub (v "I") (n 1) ∷ v "J" ∷ [])) (at "U" (Binary Add (v "I") (n 1) ∷ v "J" ∷ []))) (at "U" (v "I" ∷ Binary Sub (v "J") (n 1) ∷ []))) (at "U" (v "I" ∷ Binary Add (v "J") (n 1) ∷ []))) (n 4))
    ∷ []))
    ∷ []))
    ∷ Do 10 (codes "J") (n 1) (Binary Sub (n 4) (n 1)) (n 1) (block
    (Do 11 (codes "I") (n 1) (Binary Sub (n 4) (n 1)) (n 1) (block
    (Assignment 12 None (to_element "U" (v "I" ∷ v "J" ∷ [])) (at "V" (v "I" ∷ v "J" ∷ []))
    ∷ []))
    ∷ []))
    ∷ []))
    ∷ Print 13 (items (ImpliedDo (items (Single (at "U" (v "I" ∷ n 1 ∷ [])) ∷ [])) (codes "I") (n 0) (n 4) (n 1) ∷ []))
    ∷ [])

realistic_sweep_written : (sequential_run Plain realistic_sweep []).written ≡ lines (" 0 20 24 20 0" ∷ [])
unfolding computed
realistic_sweep_written = refl

realistic_sweep_holds_u_0_0 : (sequential_run Plain realistic_sweep []).store.held (cell "U" (pos 0 ∷ pos 0 ∷ [])) ≡ Int (pos 64)
unfolding computed
realistic_sweep_holds_u_0_0 = refl

realistic_sweep_holds_v_4_4 : (sequential_run Plain realistic_sweep []).store.held (cell "V" (pos 4 ∷ pos 4 ∷ [])) ≡ Int (pos 0)
unfolding computed
realistic_sweep_holds_v_4_4 = refl

realistic_sweep_holds_iter : (sequential_run Plain realistic_sweep []).store.held (cell "ITER" []) ≡ Int (pos 3)
unfolding computed
realistic_sweep_holds_iter = refl

-- ---- names of the source
source_name : is_source_name (codes "ITER77") ≡ true
source_name = refl

long_name : is_source_name (codes "ABCDEFG") ≡ false
long_name = refl

made_name : is_source_name (codes "FV_I") ≡ false
made_name = refl

-- a made name has no line
abbrev made_names : Program
made_names = program (integer "FV_I" ∷ integer "I" ∷ []) []

made_names_final : final_lines made_names (sequential_run Plain made_names []).store ≡ lines ("I = 0" ∷ [])
unfolding computed
made_names_final = refl

-- ---- a tree with a jump backwards, which no program has: the jump leaves the loop, and the program
abbrev jump_backwards : Program
jump_backwards = program (integer "I" ∷ integer "K" ∷ [])
    (Do 1 (codes "I") (n 1) (n 3) (n 1) (block
    (Label 10
    ∷ Assignment 2 None (to "K") (Binary Add (v "K") (n 1))
    ∷ GoTo 3 10
    ∷ []))
    ∷ [])

jump_backwards_ending : ending (sequential_run Plain jump_backwards []) ≡ None
unfolding computed
jump_backwards_ending = refl

jump_backwards_holds_k : (sequential_run Plain jump_backwards []).store.held (cell "K" []) ≡ Int (pos 1)
unfolding computed
jump_backwards_holds_k = refl
