-- Worked array forms.
use Rattle.std.proofs.Common.{◌≡◌, refl, ℕ, ℤ, pos, ◌*ℤ◌, true, false, if◌then◌else◌, List, [], ◌∷◌, Option, Some, None, Result, Ok, map}
use Rattle.std.specs.Str.{bytes_eq}
use Prim.Native.String.{String}
use Rattle.tree.specs.Plain.{Expression, Unary, Binary, Constructor, Spread, Transpose, Reshape, Subscript, Only, Section, expressions, no_loops, loop, Reference, Assignment, Where, If, no_arms, arm, Block, no_statements, statement}
use Rattle.tree.specs.declared.ops.Op.TheVariants.{Mul, Div, Neg, Add, Sub, Ge, Ne, And}
use Rattle.tree.specs.Steps.{◌>>=◌}
use Rattle.tree.specs.declared.ops.Fault.{Fault}
use Rattle.tree.specs.declared.ops.Value.{Value}
use Rattle.tree.specs.declared.ops.Value.TheVariants.{Int}
use Rattle.meaning.specs.Dialect.{fortran90}
use Rattle.tree.specs.declared.width.Width.TheVariants.{Plain}
use Rattle.meaning.specs.Store.{Store}
use Rattle.meaning.proofs.DeckWords.{n, v, at, part, to_part, to_element, name, cell}
use Rattle.meaning_laws.specs.arrays.Instances.{in_turn}
use Rattle.array_form.specs.forms.Instances.{in_sequence, instances_of}
use Rattle.array_form.specs.forms.Loops.{FormTrip, FormLoop, FormSurroundings}
use Rattle.array_form.specs.forms.Statements.{FormHold, TriangleHold, BoundsHold, hold_at, unguarded_hold, array_form_of}

-- ---- words

abbrev to_trip : List ℤ → ℤ → FormTrip
to_trip cs c = record { form = record { coefficients = cs; constant = c }; divisor = 1 }

abbrev around : String → List ℤ → ℤ → FormLoop
around x cs c = record { variable = name x; trip = to_trip cs c }

abbrev through : String → ℕ → FormLoop
through x k = around x [] (pos k)

abbrev within : List FormLoop → FormSurroundings
within ls = record { loops = ls; symbols = name "N" ∷ []; may_spread = true }

abbrev without_spread : List FormLoop → FormSurroundings
without_spread ls = record { loops = ls; symbols = name "N" ∷ []; may_spread = false }

abbrev assigned : FormSurroundings → ℕ → Reference → Expression → Block
assigned a k left right = array_form_of a k 7 None None left right

abbrev alone : Reference → Expression → Block
alone left right = statement (Assignment 7 None left right) no_statements

abbrev tested : Expression → Block → Block
tested e body = statement (If 7 (arm e body no_arms) no_statements) no_statements

-- lower and upper bound, by 1
abbrev to : ℕ → ℕ → Subscript
to a b = Section (n a) (n b) (n 1)

-- (/ (x, x = 1, k) /)
abbrev numbers : String → ℕ → Expression
numbers x k = Constructor (expressions (v x ∷ [])) (loop (name x) (n 1) (n k) no_loops)

-- A(-3*I+13) = -3*I+13, for I from 1 to 4, is A(10:1:-3) = -3 * (/ (I, I = 1, 4) /) + 13
abbrev falling : Expression → Expression
falling e = Binary Add (Unary Neg (Binary Mul (n 3) e)) (n 13)

stride_below_nought : assigned (within (through "I" 4 ∷ [])) 1 (to_element "A" (falling (v "I") ∷ [])) (falling (v "I"))
    ≡ alone (to_part "A" (Section (n 10) (n 1) (Unary Neg (n 3)) ∷ [])) (falling (numbers "I" 4))
stride_below_nought = refl

-- A(I,J) = B(J,I) + C(I) is A(1:3, 1:2) = TRANSPOSE(B(1:2, 1:3)) + SPREAD(C(1:3), 2, 2)
abbrev three_by_two : List FormLoop
three_by_two = through "I" 3 ∷ through "J" 2 ∷ []

exchange : assigned (within three_by_two) 1 (to_element "A" (v "I" ∷ v "J" ∷ [])) (Binary Add (at "B" (v "J" ∷ v "I" ∷ [])) (at "C" (v "I" ∷ [])))
    ≡ alone (to_part "A" (to 1 3 ∷ to 1 2 ∷ [])) (Binary Add (Transpose (part "B" (to 1 2 ∷ to 1 3 ∷ []))) (Spread (part "C" (to 1 3 ∷ [])) 2 (n 2)))
exchange = refl

-- with the outer loop kept it is A(I, 1:2) = B(1:2, I) + C(I)
inner_loop_alone : assigned (within three_by_two) 2 (to_element "A" (v "I" ∷ v "J" ∷ [])) (Binary Add (at "B" (v "J" ∷ v "I" ∷ [])) (at "C" (v "I" ∷ [])))
    ≡ alone (to_part "A" (Only (v "I") ∷ to 1 2 ∷ [])) (Binary Add (part "B" (to 1 2 ∷ Only (v "I") ∷ [])) (at "C" (v "I" ∷ [])))
inner_loop_alone = refl

-- where SPREAD is another name: C(I) over both loops, the first one innermost
no_spread : assigned (without_spread three_by_two) 1 (to_element "A" (v "I" ∷ v "J" ∷ [])) (at "C" (v "I" ∷ []))
    ≡ alone (to_part "A" (to 1 3 ∷ to 1 2 ∷ []))
    (Reshape (Constructor (expressions (at "C" (v "I" ∷ []) ∷ [])) (loop (name "I") (n 1) (n 3) (loop (name "J") (n 1) (n 2) no_loops))) (expressions (n 3 ∷ n 2 ∷ [])))
no_spread = refl

-- A(J,I): the loops in the order of the left subscripts, J = 1, 2 first
other_order : assigned (within three_by_two) 1 (to_element "A" (v "J" ∷ v "I" ∷ [])) (Binary Add (at "B" (v "J" ∷ v "I" ∷ [])) (at "C" (v "I" ∷ [])))
    ≡ alone (to_part "A" (to 1 2 ∷ to 1 3 ∷ [])) (Binary Add (part "B" (to 1 2 ∷ to 1 3 ∷ [])) (Spread (part "C" (to 1 3 ∷ [])) 1 (n 2)))
other_order = refl

-- E(I) = Q(K(I)) + N is E(1:4) = Q(K(1:4)) + N
vector_subscript : assigned (within (through "I" 4 ∷ [])) 1 (to_element "E" (v "I" ∷ [])) (Binary Add (at "Q" (at "K" (v "I" ∷ []) ∷ [])) (v "N"))
    ≡ alone (to_part "E" (to 1 4 ∷ [])) (Binary Add (part "Q" (Only (part "K" (to 1 4 ∷ [])) ∷ [])) (v "N"))
vector_subscript = refl

-- A(I,J) = Q(I+J) + I*J
two_loops_in_a_subscript : assigned (within three_by_two) 1 (to_element "A" (v "I" ∷ v "J" ∷ [])) (Binary Add (at "Q" (Binary Add (v "I") (v "J") ∷ [])) (Binary Mul (v "I") (v "J")))
    ≡ alone (to_part "A" (to 1 3 ∷ to 1 2 ∷ []))
    (Binary Add
    (Reshape (Constructor (expressions (at "Q" (Binary Add (v "I") (v "J") ∷ []) ∷ [])) (loop (name "I") (n 1) (n 3) (loop (name "J") (n 1) (n 2) no_loops))) (expressions (n 3 ∷ n 2 ∷ [])))
    (Binary Mul (Spread (numbers "I" 3) 2 (n 2)) (Spread (numbers "J" 2) 1 (n 3))))
two_loops_in_a_subscript = refl

-- G(I,J,L) = H(I,L) + Q(L), for I to 3, J to 2 and L to 4
abbrev three_loops : List FormLoop
three_loops = through "I" 3 ∷ through "J" 2 ∷ through "L" 4 ∷ []

missing_loops : assigned (within three_loops) 1 (to_element "G" (v "I" ∷ v "J" ∷ v "L" ∷ [])) (Binary Add (at "H" (v "I" ∷ v "L" ∷ [])) (at "Q" (v "L" ∷ [])))
    ≡ alone (to_part "G" (to 1 3 ∷ to 1 2 ∷ to 1 4 ∷ []))
    (Binary Add (Spread (part "H" (to 1 3 ∷ to 1 4 ∷ [])) 2 (n 2)) (Spread (Spread (part "Q" (to 1 4 ∷ [])) 1 (n 3)) 2 (n 2)))
missing_loops = refl

-- three loops in another order are no exchange
three_in_another_order : assigned (within three_loops) 1 (to_element "G" (v "I" ∷ v "J" ∷ v "L" ∷ [])) (at "F" (v "J" ∷ v "I" ∷ v "L" ∷ []))
    ≡ alone (to_part "G" (to 1 3 ∷ to 1 2 ∷ to 1 4 ∷ []))
    (Reshape (Constructor (expressions (at "F" (v "J" ∷ v "I" ∷ v "L" ∷ []) ∷ [])) (loop (name "I") (n 1) (n 3) (loop (name "J") (n 1) (n 2) (loop (name "L") (n 1) (n 4) no_loops)))) (expressions (n 3 ∷ n 2 ∷ n 4 ∷ [])))
three_in_another_order = refl

-- Q(I+N) = 2*N, for I from 1 to N, is IF (N >= 1) THEN Q(N+1:2*N) = 2*N: a symbol in both bounds, no loop on the right
-- side, and maybe no turn at all
maybe_no_turn : assigned (within (around "I" (pos 0 ∷ pos 1 ∷ []) (pos 0) ∷ [])) 1 (to_element "Q" (Binary Add (v "I") (v "N") ∷ [])) (Binary Mul (n 2) (v "N"))
    ≡ tested (Binary Ge (v "N") (n 1)) (alone (to_part "Q" (Section (Binary Add (v "N") (n 1)) (Binary Mul (n 2) (v "N")) (n 1) ∷ [])) (Binary Mul (n 2) (v "N")))
maybe_no_turn = refl

-- Q(4*I+N-2) = C(2*I-1), for I from 1 to (N+1)/2
abbrev half : Expression
half = Binary Div (Binary Add (v "N") (n 1)) (n 2)

divided_trip : assigned (within (record { variable = name "I"; trip = record { form = record { coefficients = pos 0 ∷ pos 1 ∷ []; constant = pos 1 }; divisor = 2 } } ∷ [])) 1
    (to_element "Q" (Binary Sub (Binary Add (Binary Mul (n 4) (v "I")) (v "N")) (n 2) ∷ [])) (at "C" (Binary Sub (Binary Mul (n 2) (v "I")) (n 1) ∷ []))
    ≡ tested (Binary Ge half (n 1))
    (alone (to_part "Q" (Section (Binary Add (v "N") (n 2)) (Binary Sub (Binary Add (v "N") (Binary Mul (n 4) half)) (n 2)) (n 4) ∷ []))
    (part "C" (Section (n 1) (Binary Sub (Binary Mul (n 2) half) (n 1)) (n 2) ∷ [])))
divided_trip = refl

-- two trips that aren't known, from the outside in
two_tests : assigned (within (around "I" (pos 0 ∷ pos 0 ∷ pos 1 ∷ []) (pos 0) ∷ around "J" (pos 0 ∷ pos 0 ∷ pos 2 ∷ []) (pos 0) ∷ [])) 1 (to_element "A" (v "J" ∷ v "I" ∷ [])) (n 0)
    ≡ tested (Binary And (Binary Ge (v "N") (n 1)) (Binary Ge (Binary Mul (n 2) (v "N")) (n 1)))
    (alone (to_part "A" (Section (n 1) (Binary Mul (n 2) (v "N")) (n 1) ∷ Section (n 1) (v "N") (n 1) ∷ [])) (n 0))
two_tests = refl

-- a bound past the limits of linear forms, 2 ^ 40
past_the_limits : assigned (within (around "I" (pos 0 ∷ pos 2 ∷ []) (pos 0) ∷ [])) 1 (to_element "A" (Binary Add (Binary Mul (n 1099511627776) (v "I")) (v "N") ∷ [])) (n 0)
    ≡ tested (Binary Ge (Binary Mul (n 2) (v "N")) (n 1))
    (alone (to_part "A" (Section (Binary Add (v "N") (n 1099511627776)) (Binary Add (Binary Mul (n 1099511627776) (Binary Mul (n 2) (v "N"))) (v "N")) (n 1099511627776) ∷ [])) (n 0))
past_the_limits = refl

-- ---- under a guard

abbrev under : FormSurroundings → ℕ → Expression → Reference → Expression → Block
under a k guard left right = array_form_of a k 7 None (Some guard) left right

-- A(I) = B(I) / C(I) under C(I) /= 0
masked : under (within (through "I" 4 ∷ [])) 1 (Binary Ne (at "C" (v "I" ∷ [])) (n 0)) (to_element "A" (v "I" ∷ [])) (Binary Div (at "B" (v "I" ∷ [])) (at "C" (v "I" ∷ [])))
    ≡ statement (Where 7 None (Binary Ne (part "C" (to 1 4 ∷ [])) (n 0)) (to_part "A" (to 1 4 ∷ [])) (Binary Div (part "B" (to 1 4 ∷ [])) (part "C" (to 1 4 ∷ [])))) no_statements
masked = refl

-- A(I,J) = 0 under M(I): the mask has the rank of the left side
mask_of_one_loop : under (within three_by_two) 1 (at "M" (v "I" ∷ [])) (to_element "A" (v "I" ∷ v "J" ∷ [])) (n 0)
    ≡ statement (Where 7 None (Spread (part "M" (to 1 3 ∷ [])) 2 (n 2)) (to_part "A" (to 1 3 ∷ to 1 2 ∷ [])) (n 0)) no_statements
mask_of_one_loop = refl

-- with the outer loop kept the guard is an IF
outer_loop_in_guard : under (within three_by_two) 2 (at "M" (v "I" ∷ [])) (to_element "A" (v "I" ∷ v "J" ∷ [])) (n 0)
    ≡ tested (at "M" (v "I" ∷ [])) (alone (to_part "A" (Only (v "I") ∷ to 1 2 ∷ [])) (n 0))
outer_loop_in_guard = refl

-- the IF on the trip stands round the IF of the guard
trip_and_guard : under (within (around "I" (pos 0 ∷ pos 1 ∷ []) (pos 0) ∷ [])) 1 (v "L") (to_element "A" (v "I" ∷ [])) (n 0)
    ≡ tested (Binary Ge (v "N") (n 1)) (tested (v "L") (alone (to_part "A" (Section (n 1) (v "N") (n 1) ∷ [])) (n 0)))
trip_and_guard = refl

-- ---- holds

-- two loops in one left subscript, a loop in none, and a scalar
two_in_one : unguarded_hold (within three_by_two) 1 (to_element "A" (Binary Add (v "I") (v "J") ∷ [])) ≡ Some FormHold
two_in_one = refl

in_none : unguarded_hold (within three_by_two) 1 (to_element "A" (v "I" ∷ [])) ≡ Some FormHold
in_none = refl

scalar_left_side : unguarded_hold (within three_by_two) 2 (to_element "A" []) ≡ Some FormHold
scalar_left_side = refl

not_linear : unguarded_hold (within three_by_two) 2 (to_element "A" (at "K" (v "J" ∷ []) ∷ [])) ≡ Some FormHold
not_linear = refl

-- J from 1 to I
triangle : unguarded_hold (within (through "I" 3 ∷ around "J" (pos 1 ∷ []) (pos 0) ∷ [])) 1 (to_element "A" (v "I" ∷ v "J" ∷ [])) ≡ Some TriangleHold
triangle = refl

triangle_inside : unguarded_hold (within (through "I" 3 ∷ around "J" (pos 1 ∷ []) (pos 0) ∷ [])) 2 (to_element "A" (v "I" ∷ v "J" ∷ [])) ≡ None
triangle_inside = refl

no_hold : unguarded_hold (within three_by_two) 1 (to_element "A" (v "I" ∷ v "J" ∷ [])) ≡ None
no_hold = refl

-- a guard without loops from the level on, or with a safe statement, holds nothing
abbrev guard_of_outer : Option Expression
guard_of_outer = Some (at "M" (v "I" ∷ []))

unsafe : hold_at (within three_by_two) 1 guard_of_outer (to_element "A" (v "I" ∷ v "J" ∷ [])) false ≡ Some BoundsHold
unsafe = refl

safe : hold_at (within three_by_two) 1 guard_of_outer (to_element "A" (v "I" ∷ v "J" ∷ [])) true ≡ None
safe = refl

guard_outside : hold_at (within three_by_two) 2 guard_of_outer (to_element "A" (v "I" ∷ v "J" ∷ [])) false ≡ None
guard_outside = refl

form_first : hold_at (within three_by_two) 1 guard_of_outer (to_element "A" (v "I" ∷ [])) false ≡ Some FormHold
form_first = refl

-- ---- instances

-- the outermost loop is the slowest one
in_a_sequential_run : in_sequence (2 ∷ 3 ∷ []) ≡ (1 ∷ 1 ∷ []) ∷ (1 ∷ 2 ∷ []) ∷ (1 ∷ 3 ∷ []) ∷ (2 ∷ 1 ∷ []) ∷ (2 ∷ 2 ∷ []) ∷ (2 ∷ 3 ∷ []) ∷ []
in_a_sequential_run = refl

-- A(1:4) holds 10, 20, 30 and 40
abbrev first_of : List ℤ → ℤ
first_of [] = pos 0
first_of (z ∷ zs) = z

abbrev tens : Store
tens = record { bounds = λ x. if bytes_eq x (name "A") then Some ((pos 1, pos 4) ∷ []) else Some []; held = λ c. Int (pos 10 *ℤ first_of c.subscripts) }

abbrev held_in_turn : Reference → Expression → Result (List Value) Fault
held_in_turn left right = do
  s ← in_turn (instances_of (fortran90 Plain) (through "I" 3 ∷ []) (3 ∷ []) left right) tens
  Ok (map (λ z. s.held (cell "A" (z ∷ []))) (pos 1 ∷ pos 2 ∷ pos 3 ∷ pos 4 ∷ []))

abbrev values : List ℕ → List Value
values ks = map (λ k. Int (pos k)) ks

-- A(I) = A(I+1): no instance reads what an earlier one has written
forward : held_in_turn (to_element "A" (v "I" ∷ [])) (at "A" (Binary Add (v "I") (n 1) ∷ [])) ≡ Ok (values (20 ∷ 30 ∷ 40 ∷ 40 ∷ []))
forward = refl

-- A(I+1) = A(I): each reads what the one before it has written
backward : held_in_turn (to_element "A" (Binary Add (v "I") (n 1) ∷ [])) (at "A" (v "I" ∷ [])) ≡ Ok (values (10 ∷ 10 ∷ 10 ∷ 10 ∷ []))
backward = refl
