-- Worked decks on kinds. Above each text stands the deck that it is of.
use Rattle.std.proofs.Common.{◌≡◌, refl, List, [], ◌∷◌, Some, true}
use lib.Chars.{codes}
use Rattle.tree.specs.Plain.{Logic, Binary, Single, items}
use Rattle.tree.specs.declared.ops.Op.TheVariants.{Add, Lt}
use Rattle.tree.specs.declared.ops.Kind.TheVariants.{Integer, Logical}
use Rattle.meaning.specs.Dialect.{fortran77}
use Rattle.tree.specs.declared.width.Width.TheVariants.{Plain}
use Rattle.tree.specs.Causes.{refusal_at}
use Rattle.tree.specs.declared.refusals.Cause.TheVariants as causes
use Rattle.f77_grammar.specs.Statement77.{Labelled, Declare, Constants, Assign, Test, Do, Continue, Read, Print, End}
use Rattle.f77_grammar.specs.program.Program77.{findings}
use Rattle.meaning.proofs.DeckWords.{n, v, at, to, to_element}
use Rattle.f77_grammar.proofs.programs.Words.{s, l, scalar, array, constant}
use Rattle.f77_grammar.proofs.programs.Least.{least}

--       LOGICAL L
--       I = 1 + L
--       END
abbrev sum_with_logical : List Labelled
sum_with_logical =
    s 1 (Declare Logical (scalar "L" ∷ []))
    ∷ s 2 (Assign (to "I") (Binary Add (n 1) (v "L")))
    ∷ s 3 (End)
    ∷ []

sum_with_logical_refused : least (findings (fortran77 Plain) sum_with_logical) ≡ Some (refusal_at causes.TypeClash 2)
sum_with_logical_refused = refl

--       INTEGER L
--       I = 1 + L
--       END
abbrev sum_with_integer : List Labelled
sum_with_integer =
    s 1 (Declare Integer (scalar "L" ∷ []))
    ∷ s 2 (Assign (to "I") (Binary Add (n 1) (v "L")))
    ∷ s 3 (End)
    ∷ []

sum_with_integer_read : findings (fortran77 Plain) sum_with_integer ≡ []
sum_with_integer_read = refl

--       I = 1 .LT. 2
--       END
abbrev relation_assigned : List Labelled
relation_assigned =
    s 1 (Assign (to "I") (Binary Lt (n 1) (n 2)))
    ∷ s 2 (End)
    ∷ []

relation_assigned_refused : least (findings (fortran77 Plain) relation_assigned) ≡ Some (refusal_at causes.TypeClash 1)
relation_assigned_refused = refl

--       LOGICAL L
--       L = 1 .LT. 2
--       END
abbrev relation_to_logical : List Labelled
relation_to_logical =
    s 1 (Declare Logical (scalar "L" ∷ []))
    ∷ s 2 (Assign (to "L") (Binary Lt (n 1) (n 2)))
    ∷ s 3 (End)
    ∷ []

relation_to_logical_read : findings (fortran77 Plain) relation_to_logical ≡ []
relation_to_logical_read = refl

--       I = MAX(1)
--       END
abbrev max_of_one : List Labelled
max_of_one =
    s 1 (Assign (to "I") (at "MAX" (n 1 ∷ [])))
    ∷ s 2 (End)
    ∷ []

max_of_one_refused : least (findings (fortran77 Plain) max_of_one) ≡ Some (refusal_at causes.TypeClash 1)
max_of_one_refused = refl

--       I = MAX(1, 2)
--       END
abbrev max_of_two : List Labelled
max_of_two =
    s 1 (Assign (to "I") (at "MAX" (n 1 ∷ n 2 ∷ [])))
    ∷ s 2 (End)
    ∷ []

max_of_two_read : findings (fortran77 Plain) max_of_two ≡ []
max_of_two_read = refl

--       I = ABS(1, 2)
--       END
abbrev abs_of_two : List Labelled
abs_of_two =
    s 1 (Assign (to "I") (at "ABS" (n 1 ∷ n 2 ∷ [])))
    ∷ s 2 (End)
    ∷ []

abs_of_two_refused : least (findings (fortran77 Plain) abs_of_two) ≡ Some (refusal_at causes.TypeClash 1)
abs_of_two_refused = refl

--       INTEGER K(3)
--       K(.TRUE.) = 1
--       END
abbrev logical_subscript : List Labelled
logical_subscript =
    s 1 (Declare Integer (array "K" ((n 1, n 3) ∷ []) ∷ []))
    ∷ s 2 (Assign (to_element "K" (Logic true ∷ [])) (n 1))
    ∷ s 3 (End)
    ∷ []

logical_subscript_refused : least (findings (fortran77 Plain) logical_subscript) ≡ Some (refusal_at causes.TypeClash 2)
logical_subscript_refused = refl

--       IF (1) I = 2
--       END
abbrev integer_condition : List Labelled
integer_condition =
    s 1 (Test (n 1) (Assign (to "I") (n 2)))
    ∷ s 2 (End)
    ∷ []

integer_condition_refused : least (findings (fortran77 Plain) integer_condition) ≡ Some (refusal_at causes.TypeClash 1)
integer_condition_refused = refl

--       IF (.TRUE.) I = 2
--       END
abbrev logical_condition : List Labelled
logical_condition =
    s 1 (Test (Logic true) (Assign (to "I") (n 2)))
    ∷ s 2 (End)
    ∷ []

logical_condition_read : findings (fortran77 Plain) logical_condition ≡ []
logical_condition_read = refl

--       INTEGER K(3)
--       I = K + 1
--       END
abbrev whole_array_in_sum : List Labelled
whole_array_in_sum =
    s 1 (Declare Integer (array "K" ((n 1, n 3) ∷ []) ∷ []))
    ∷ s 2 (Assign (to "I") (Binary Add (v "K") (n 1)))
    ∷ s 3 (End)
    ∷ []

whole_array_in_sum_refused : least (findings (fortran77 Plain) whole_array_in_sum) ≡ Some (refusal_at causes.TypeClash 2)
whole_array_in_sum_refused = refl

--       INTEGER K(3)
--       K = 1
--       END
abbrev whole_array_assigned : List Labelled
whole_array_assigned =
    s 1 (Declare Integer (array "K" ((n 1, n 3) ∷ []) ∷ []))
    ∷ s 2 (Assign (to "K") (n 1))
    ∷ s 3 (End)
    ∷ []

whole_array_assigned_refused : least (findings (fortran77 Plain) whole_array_assigned) ≡ Some (refusal_at causes.TypeClash 2)
whole_array_assigned_refused = refl

--       INTEGER K(3)
--       PRINT *, K
--       END
abbrev whole_array_printed : List Labelled
whole_array_printed =
    s 1 (Declare Integer (array "K" ((n 1, n 3) ∷ []) ∷ []))
    ∷ s 2 (Print (items (Single (v "K") ∷ [])))
    ∷ s 3 (End)
    ∷ []

whole_array_printed_read : findings (fortran77 Plain) whole_array_printed ≡ []
whole_array_printed_read = refl

--       MAX(1, 2) = 3
--       END
abbrev call_assigned : List Labelled
call_assigned =
    s 1 (Assign (to_element "MAX" (n 1 ∷ n 2 ∷ [])) (n 3))
    ∷ s 2 (End)
    ∷ []

call_assigned_refused : least (findings (fortran77 Plain) call_assigned) ≡ Some (refusal_at causes.TypeClash 1)
call_assigned_refused = refl

--       DO 10 I = 1, .TRUE.
--    10 CONTINUE
--       END
abbrev logical_loop_bound : List Labelled
logical_loop_bound =
    s 1 (Do (Some 10) (codes "I") (n 1) (Logic true) (n 1))
    ∷ l 10 2 (Continue)
    ∷ s 3 (End)
    ∷ []

logical_loop_bound_refused : least (findings (fortran77 Plain) logical_loop_bound) ≡ Some (refusal_at causes.TypeClash 1)
logical_loop_bound_refused = refl

--       PARAMETER (N = .TRUE.)
--       END
abbrev logical_constant_of_integer_name : List Labelled
logical_constant_of_integer_name =
    s 1 (Constants (constant "N" (Logic true) ∷ []))
    ∷ s 2 (End)
    ∷ []

logical_constant_of_integer_name_refused : least (findings (fortran77 Plain) logical_constant_of_integer_name) ≡ Some (refusal_at causes.TypeClash 1)
logical_constant_of_integer_name_refused = refl

--       LOGICAL N
--       PARAMETER (N = .TRUE.)
--       END
abbrev logical_constant : List Labelled
logical_constant =
    s 1 (Declare Logical (scalar "N" ∷ []))
    ∷ s 2 (Constants (constant "N" (Logic true) ∷ []))
    ∷ s 3 (End)
    ∷ []

logical_constant_read : findings (fortran77 Plain) logical_constant ≡ []
logical_constant_read = refl

--       INTEGER MAX
--       I = MAX(1, 2)
--       END
abbrev list_after_hiding_scalar : List Labelled
list_after_hiding_scalar =
    s 1 (Declare Integer (scalar "MAX" ∷ []))
    ∷ s 2 (Assign (to "I") (at "MAX" (n 1 ∷ n 2 ∷ [])))
    ∷ s 3 (End)
    ∷ []

list_after_hiding_scalar_refused : least (findings (fortran77 Plain) list_after_hiding_scalar) ≡ Some (refusal_at causes.TypeClash 2)
list_after_hiding_scalar_refused = refl

--       INTEGER ABS
--       I = 1
--       I = IABS(I)
--       END
abbrev variable_abs_beside_iabs : List Labelled
variable_abs_beside_iabs =
    s 1 (Declare Integer (scalar "ABS" ∷ []))
    ∷ s 2 (Assign (to "I") (n 1))
    ∷ s 3 (Assign (to "I") (at "IABS" (v "I" ∷ [])))
    ∷ s 4 (End)
    ∷ []

variable_abs_beside_iabs_refused : least (findings (fortran77 Plain) variable_abs_beside_iabs) ≡ Some (refusal_at causes.TypeClash 3)
variable_abs_beside_iabs_refused = refl

--       INTEGER ABS
--       I = 1
--       ABS = I
--       END
abbrev variable_abs_beside_nothing : List Labelled
variable_abs_beside_nothing =
    s 1 (Declare Integer (scalar "ABS" ∷ []))
    ∷ s 2 (Assign (to "I") (n 1))
    ∷ s 3 (Assign (to "ABS") (v "I"))
    ∷ s 4 (End)
    ∷ []

variable_abs_beside_nothing_read : findings (fortran77 Plain) variable_abs_beside_nothing ≡ []
variable_abs_beside_nothing_read = refl

--       INTEGER ABS
--       PARAMETER (ABS = 1)
--       I = IABS(ABS)
--       END
abbrev constant_abs_beside_iabs : List Labelled
constant_abs_beside_iabs =
    s 1 (Declare Integer (scalar "ABS" ∷ []))
    ∷ s 2 (Constants (constant "ABS" (n 1) ∷ []))
    ∷ s 3 (Assign (to "I") (at "IABS" (v "ABS" ∷ [])))
    ∷ s 4 (End)
    ∷ []

constant_abs_beside_iabs_read : findings (fortran77 Plain) constant_abs_beside_iabs ≡ []
constant_abs_beside_iabs_read = refl

--       READ *, MAX(1, 2)
--       END
abbrev read_into_call : List Labelled
read_into_call =
    s 1 (Read (items (Single (at "MAX" (n 1 ∷ n 2 ∷ [])) ∷ [])))
    ∷ s 2 (End)
    ∷ []

read_into_call_refused : least (findings (fortran77 Plain) read_into_call) ≡ Some (refusal_at causes.TypeClash 1)
read_into_call_refused = refl
