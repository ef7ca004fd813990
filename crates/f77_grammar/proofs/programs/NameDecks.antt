-- Worked decks on declarations and names. Above each text stands the deck that it is of.
use Rattle.std.proofs.Common.{◌≡◌, refl, List, [], ◌∷◌, Some}
use lib.Chars.{codes}
use Rattle.tree.specs.Plain.{Binary, Single, items}
use Rattle.tree.specs.declared.ops.Op.TheVariants.{Add}
use Rattle.tree.specs.declared.ops.Kind.TheVariants.{Integer, Logical}
use Rattle.meaning.specs.Dialect.{fortran77}
use Rattle.tree.specs.declared.width.Width.TheVariants.{Plain}
use Rattle.tree.specs.Causes.{refusal_at}
use Rattle.tree.specs.declared.refusals.Cause.TheVariants as causes
use Rattle.f77_grammar.specs.Statement77.{Labelled, Program, Declare, Dimension, Constants, Assign, Do, Read, Print, End}
use Rattle.f77_grammar.specs.program.Program77.{findings}
use Rattle.meaning.proofs.DeckWords.{n, v, at, to}
use Rattle.f77_grammar.proofs.programs.Words.{s, l, scalar, array, constant}
use Rattle.f77_grammar.proofs.programs.Least.{least}

--       INTEGER A
--       LOGICAL A
--       END
abbrev two_types : List Labelled
two_types =
    s 1 (Declare Integer (scalar "A" ∷ []))
    ∷ s 2 (Declare Logical (scalar "A" ∷ []))
    ∷ s 3 (End)
    ∷ []

two_types_refused : least (findings (fortran77 Plain) two_types) ≡ Some (refusal_at causes.Declared 2)
two_types_refused = refl

--       INTEGER I
--       INTEGER I
--       END
abbrev two_equal_types : List Labelled
two_equal_types =
    s 1 (Declare Integer (scalar "I" ∷ []))
    ∷ s 2 (Declare Integer (scalar "I" ∷ []))
    ∷ s 3 (End)
    ∷ []

two_equal_types_refused : least (findings (fortran77 Plain) two_equal_types) ≡ Some (refusal_at causes.Declared 2)
two_equal_types_refused = refl

--       INTEGER A
--       INTEGER B
--       END
abbrev one_type : List Labelled
one_type =
    s 1 (Declare Integer (scalar "A" ∷ []))
    ∷ s 2 (Declare Integer (scalar "B" ∷ []))
    ∷ s 3 (End)
    ∷ []

one_type_read : findings (fortran77 Plain) one_type ≡ []
one_type_read = refl

--       INTEGER A, A
--       END
abbrev two_types_in_one : List Labelled
two_types_in_one =
    s 1 (Declare Integer (scalar "A" ∷ scalar "A" ∷ []))
    ∷ s 2 (End)
    ∷ []

two_types_in_one_refused : least (findings (fortran77 Plain) two_types_in_one) ≡ Some (refusal_at causes.Declared 1)
two_types_in_one_refused = refl

--       INTEGER A(3)
--       DIMENSION A(3)
--       END
abbrev two_lists_of_bounds : List Labelled
two_lists_of_bounds =
    s 1 (Declare Integer (array "A" ((n 1, n 3) ∷ []) ∷ []))
    ∷ s 2 (Dimension (array "A" ((n 1, n 3) ∷ []) ∷ []))
    ∷ s 3 (End)
    ∷ []

two_lists_of_bounds_refused : least (findings (fortran77 Plain) two_lists_of_bounds) ≡ Some (refusal_at causes.Declared 2)
two_lists_of_bounds_refused = refl

--       INTEGER A
--       DIMENSION A(3)
--       END
abbrev type_and_bounds : List Labelled
type_and_bounds =
    s 1 (Declare Integer (scalar "A" ∷ []))
    ∷ s 2 (Dimension (array "A" ((n 1, n 3) ∷ []) ∷ []))
    ∷ s 3 (End)
    ∷ []

type_and_bounds_read : findings (fortran77 Plain) type_and_bounds ≡ []
type_and_bounds_read = refl

--       PARAMETER (N = 1)
--       PARAMETER (N = 1)
--       END
abbrev two_constants : List Labelled
two_constants =
    s 1 (Constants (constant "N" (n 1) ∷ []))
    ∷ s 2 (Constants (constant "N" (n 1) ∷ []))
    ∷ s 3 (End)
    ∷ []

two_constants_refused : least (findings (fortran77 Plain) two_constants) ≡ Some (refusal_at causes.Declared 2)
two_constants_refused = refl

--       PARAMETER (N = 1)
--       DIMENSION N(3)
--       END
abbrev constant_with_bounds : List Labelled
constant_with_bounds =
    s 1 (Constants (constant "N" (n 1) ∷ []))
    ∷ s 2 (Dimension (array "N" ((n 1, n 3) ∷ []) ∷ []))
    ∷ s 3 (End)
    ∷ []

constant_with_bounds_refused : least (findings (fortran77 Plain) constant_with_bounds) ≡ Some (refusal_at causes.Declared 2)
constant_with_bounds_refused = refl

--       PARAMETER (N = 1)
--       INTEGER N
--       END
abbrev type_after_constant : List Labelled
type_after_constant =
    s 1 (Constants (constant "N" (n 1) ∷ []))
    ∷ s 2 (Declare Integer (scalar "N" ∷ []))
    ∷ s 3 (End)
    ∷ []

type_after_constant_read : findings (fortran77 Plain) type_after_constant ≡ []
type_after_constant_read = refl

--       PROGRAM P
--       INTEGER P
--       END
abbrev program_name_used : List Labelled
program_name_used =
    s 1 (Program (codes "P"))
    ∷ s 2 (Declare Integer (scalar "P" ∷ []))
    ∷ s 3 (End)
    ∷ []

program_name_used_refused : least (findings (fortran77 Plain) program_name_used) ≡ Some (refusal_at causes.Declared 2)
program_name_used_refused = refl

--       PROGRAM P
--       INTEGER Q
--       END
abbrev program_name_unused : List Labelled
program_name_unused =
    s 1 (Program (codes "P"))
    ∷ s 2 (Declare Integer (scalar "Q" ∷ []))
    ∷ s 3 (End)
    ∷ []

program_name_unused_read : findings (fortran77 Plain) program_name_unused ≡ []
program_name_unused_read = refl

--       PROGRAM MAX
--       I = MAX(1, 2)
--       END
abbrev program_max_calls_max : List Labelled
program_max_calls_max =
    s 1 (Program (codes "MAX"))
    ∷ s 2 (Assign (to "I") (at "MAX" (n 1 ∷ n 2 ∷ [])))
    ∷ s 3 (End)
    ∷ []

program_max_calls_max_refused : least (findings (fortran77 Plain) program_max_calls_max) ≡ Some (refusal_at causes.Declared 2)
program_max_calls_max_refused = refl

--       PROGRAM MAX
--       I = MIN(1, 2)
--       END
abbrev program_max_calls_min : List Labelled
program_max_calls_min =
    s 1 (Program (codes "MAX"))
    ∷ s 2 (Assign (to "I") (at "MIN" (n 1 ∷ n 2 ∷ [])))
    ∷ s 3 (End)
    ∷ []

program_max_calls_min_read : findings (fortran77 Plain) program_max_calls_min ≡ []
program_max_calls_min_read = refl

--       PROGRAM MAX0
--       MAX = 1
--       END
abbrev program_max0_beside_max : List Labelled
program_max0_beside_max =
    s 1 (Program (codes "MAX0"))
    ∷ s 2 (Assign (to "MAX") (n 1))
    ∷ s 3 (End)
    ∷ []

program_max0_beside_max_read : findings (fortran77 Plain) program_max0_beside_max ≡ []
program_max0_beside_max_read = refl

--       PROGRAM MAX
--       I = MAX0(1, 2)
--       END
abbrev program_max_calls_max0 : List Labelled
program_max_calls_max0 =
    s 1 (Program (codes "MAX"))
    ∷ s 2 (Assign (to "I") (at "MAX0" (n 1 ∷ n 2 ∷ [])))
    ∷ s 3 (End)
    ∷ []

program_max_calls_max0_refused : least (findings (fortran77 Plain) program_max_calls_max0) ≡ Some (refusal_at causes.Declared 2)
program_max_calls_max0_refused = refl

--       PROGRAM MAX0
--       I = MAX0(1, 2)
--       END
abbrev program_max0_calls_max0 : List Labelled
program_max0_calls_max0 =
    s 1 (Program (codes "MAX0"))
    ∷ s 2 (Assign (to "I") (at "MAX0" (n 1 ∷ n 2 ∷ [])))
    ∷ s 3 (End)
    ∷ []

program_max0_calls_max0_refused : least (findings (fortran77 Plain) program_max0_calls_max0) ≡ Some (refusal_at causes.Declared 2)
program_max0_calls_max0_refused = refl

--       PROGRAM MAX0
--       I = MAX(1, 2)
--       END
abbrev program_max0_calls_max : List Labelled
program_max0_calls_max =
    s 1 (Program (codes "MAX0"))
    ∷ s 2 (Assign (to "I") (at "MAX" (n 1 ∷ n 2 ∷ [])))
    ∷ s 3 (End)
    ∷ []

program_max0_calls_max_read : findings (fortran77 Plain) program_max0_calls_max ≡ []
program_max0_calls_max_read = refl

--       INTEGER A(N)
--       END
abbrev bound_from_variable : List Labelled
bound_from_variable =
    s 1 (Declare Integer (array "A" ((n 1, v "N") ∷ []) ∷ []))
    ∷ s 2 (End)
    ∷ []

bound_from_variable_refused : least (findings (fortran77 Plain) bound_from_variable) ≡ Some (refusal_at causes.Declared 1)
bound_from_variable_refused = refl

--       INTEGER A(N)
--       PARAMETER (N = 2)
--       END
abbrev bound_from_later_constant : List Labelled
bound_from_later_constant =
    s 1 (Declare Integer (array "A" ((n 1, v "N") ∷ []) ∷ []))
    ∷ s 2 (Constants (constant "N" (n 2) ∷ []))
    ∷ s 3 (End)
    ∷ []

bound_from_later_constant_refused : least (findings (fortran77 Plain) bound_from_later_constant) ≡ Some (refusal_at causes.Declared 1)
bound_from_later_constant_refused = refl

--       PARAMETER (N = 2)
--       INTEGER A(N)
--       END
abbrev bound_from_constant : List Labelled
bound_from_constant =
    s 1 (Constants (constant "N" (n 2) ∷ []))
    ∷ s 2 (Declare Integer (array "A" ((n 1, v "N") ∷ []) ∷ []))
    ∷ s 3 (End)
    ∷ []

bound_from_constant_read : findings (fortran77 Plain) bound_from_constant ≡ []
bound_from_constant_read = refl

--       PARAMETER (N = 2, M = N + 1)
--       END
abbrev constant_from_one_beside_it : List Labelled
constant_from_one_beside_it =
    s 1 (Constants (constant "N" (n 2) ∷ constant "M" (Binary Add (v "N") (n 1)) ∷ []))
    ∷ s 2 (End)
    ∷ []

constant_from_one_beside_it_read : findings (fortran77 Plain) constant_from_one_beside_it ≡ []
constant_from_one_beside_it_read = refl

--       PARAMETER (N = N)
--       END
abbrev constant_from_itself : List Labelled
constant_from_itself =
    s 1 (Constants (constant "N" (v "N") ∷ []))
    ∷ s 2 (End)
    ∷ []

constant_from_itself_refused : least (findings (fortran77 Plain) constant_from_itself) ≡ Some (refusal_at causes.Declared 1)
constant_from_itself_refused = refl

--       PARAMETER (N = MAX(1, 2))
--       END
abbrev call_in_constant : List Labelled
call_in_constant =
    s 1 (Constants (constant "N" (at "MAX" (n 1 ∷ n 2 ∷ [])) ∷ []))
    ∷ s 2 (End)
    ∷ []

call_in_constant_refused : least (findings (fortran77 Plain) call_in_constant) ≡ Some (refusal_at causes.Declared 1)
call_in_constant_refused = refl

--       I = K(1)
--       END
abbrev list_after_scalar : List Labelled
list_after_scalar =
    s 1 (Assign (to "I") (at "K" (n 1 ∷ [])))
    ∷ s 2 (End)
    ∷ []

list_after_scalar_refused : least (findings (fortran77 Plain) list_after_scalar) ≡ Some (refusal_at causes.Declared 1)
list_after_scalar_refused = refl

--       INTEGER K(1)
--       I = K(1)
--       END
abbrev list_after_array : List Labelled
list_after_array =
    s 1 (Declare Integer (array "K" ((n 1, n 1) ∷ []) ∷ []))
    ∷ s 2 (Assign (to "I") (at "K" (n 1 ∷ [])))
    ∷ s 3 (End)
    ∷ []

list_after_array_read : findings (fortran77 Plain) list_after_array ≡ []
list_after_array_read = refl

--       INTEGER K(1)
--       I = K(1, 1)
--       END
abbrev two_subscripts_for_one : List Labelled
two_subscripts_for_one =
    s 1 (Declare Integer (array "K" ((n 1, n 1) ∷ []) ∷ []))
    ∷ s 2 (Assign (to "I") (at "K" (n 1 ∷ n 1 ∷ [])))
    ∷ s 3 (End)
    ∷ []

two_subscripts_for_one_refused : least (findings (fortran77 Plain) two_subscripts_for_one) ≡ Some (refusal_at causes.Declared 2)
two_subscripts_for_one_refused = refl

--       PARAMETER (N = 1)
--       N = 2
--       END
abbrev constant_assigned : List Labelled
constant_assigned =
    s 1 (Constants (constant "N" (n 1) ∷ []))
    ∷ s 2 (Assign (to "N") (n 2))
    ∷ s 3 (End)
    ∷ []

constant_assigned_refused : least (findings (fortran77 Plain) constant_assigned) ≡ Some (refusal_at causes.Declared 2)
constant_assigned_refused = refl

--       PARAMETER (N = 1)
--       READ *, N
--       END
abbrev constant_read_into : List Labelled
constant_read_into =
    s 1 (Constants (constant "N" (n 1) ∷ []))
    ∷ s 2 (Read (items (Single (v "N") ∷ [])))
    ∷ s 3 (End)
    ∷ []

constant_read_into_refused : least (findings (fortran77 Plain) constant_read_into) ≡ Some (refusal_at causes.Declared 2)
constant_read_into_refused = refl

--       PARAMETER (N = 1)
--       PRINT *, N
--       END
abbrev constant_printed : List Labelled
constant_printed =
    s 1 (Constants (constant "N" (n 1) ∷ []))
    ∷ s 2 (Print (items (Single (v "N") ∷ [])))
    ∷ s 3 (End)
    ∷ []

constant_printed_read : findings (fortran77 Plain) constant_printed ≡ []
constant_printed_read = refl

--       I = 1
--       A = 1
--       END
abbrev real_name : List Labelled
real_name =
    s 1 (Assign (to "I") (n 1))
    ∷ s 2 (Assign (to "A") (n 1))
    ∷ s 3 (End)
    ∷ []

real_name_refused : least (findings (fortran77 Plain) real_name) ≡ Some (refusal_at causes.RealName 2)
real_name_refused = refl

--       I = 1
--       N = 1
--       END
abbrev name_up_to_n : List Labelled
name_up_to_n =
    s 1 (Assign (to "I") (n 1))
    ∷ s 2 (Assign (to "N") (n 1))
    ∷ s 3 (End)
    ∷ []

name_up_to_n_read : findings (fortran77 Plain) name_up_to_n ≡ []
name_up_to_n_read = refl

--       I = 1
--       O = 1
--       END
abbrev name_from_o : List Labelled
name_from_o =
    s 1 (Assign (to "I") (n 1))
    ∷ s 2 (Assign (to "O") (n 1))
    ∷ s 3 (End)
    ∷ []

name_from_o_refused : least (findings (fortran77 Plain) name_from_o) ≡ Some (refusal_at causes.RealName 2)
name_from_o_refused = refl

--       PARAMETER (A = 1)
--       END
abbrev real_constant : List Labelled
real_constant =
    s 1 (Constants (constant "A" (n 1) ∷ []))
    ∷ s 2 (End)
    ∷ []

real_constant_refused : least (findings (fortran77 Plain) real_constant) ≡ Some (refusal_at causes.RealName 1)
real_constant_refused = refl

--       PARAMETER (A = 1)
--       INTEGER A
--       END
abbrev typed_constant : List Labelled
typed_constant =
    s 1 (Constants (constant "A" (n 1) ∷ []))
    ∷ s 2 (Declare Integer (scalar "A" ∷ []))
    ∷ s 3 (End)
    ∷ []

typed_constant_read : findings (fortran77 Plain) typed_constant ≡ []
typed_constant_read = refl

--       INTEGER DO10I
--       DO10I=1
--       DO 10 I = 1, 3
--    10 DO10I = DO10I + I
--       PRINT *, DO10I, I
--       END
abbrev blanks_have_no_meaning : List Labelled
blanks_have_no_meaning =
    s 1 (Declare Integer (scalar "DO10I" ∷ []))
    ∷ s 2 (Assign (to "DO10I") (n 1))
    ∷ s 3 (Do (Some 10) (codes "I") (n 1) (n 3) (n 1))
    ∷ l 10 4 (Assign (to "DO10I") (Binary Add (v "DO10I") (v "I")))
    ∷ s 5 (Print (items (Single (v "DO10I") ∷ Single (v "I") ∷ [])))
    ∷ s 6 (End)
    ∷ []

blanks_have_no_meaning_read : findings (fortran77 Plain) blanks_have_no_meaning ≡ []
blanks_have_no_meaning_read = refl

--       DO10I=1
--       DO 10 I = 1, 3
--    10 DO10I = DO10I + I
--       PRINT *, DO10I, I
--       END
abbrev blanks_have_no_meaning_undeclared : List Labelled
blanks_have_no_meaning_undeclared =
    s 1 (Assign (to "DO10I") (n 1))
    ∷ s 2 (Do (Some 10) (codes "I") (n 1) (n 3) (n 1))
    ∷ l 10 3 (Assign (to "DO10I") (Binary Add (v "DO10I") (v "I")))
    ∷ s 4 (Print (items (Single (v "DO10I") ∷ Single (v "I") ∷ [])))
    ∷ s 5 (End)
    ∷ []

blanks_have_no_meaning_undeclared_refused : least (findings (fortran77 Plain) blanks_have_no_meaning_undeclared) ≡ Some (refusal_at causes.RealName 1)
blanks_have_no_meaning_undeclared_refused = refl
