-- Worked decks on IMPLICIT NONE. Above each text stands the deck that it is of.
use Rattle.std.proofs.Common.{◌≡◌, refl, List, [], ◌∷◌, Some, None, true}
use lib.Chars.{codes}
use Rattle.tree.specs.Plain.{Logic}
use Rattle.tree.specs.declared.ops.Kind.TheVariants.{Integer}
use Rattle.meaning.specs.Dialect.{fortran77}
use Rattle.tree.specs.declared.width.Width.TheVariants.{Plain}
use Rattle.tree.specs.Causes.{refusal_at}
use Rattle.tree.specs.declared.refusals.Cause.TheVariants as causes
use Rattle.f77_grammar.specs.Statement77.{Labelled, Program, ImplicitNone, Declare, Dimension, Constants, Assign, Do, EndDo, End}
use Rattle.f77_grammar.specs.program.EndDo.{with_loop_labels}
use Rattle.f77_grammar.specs.program.Program77.{findings}
use Rattle.meaning.proofs.DeckWords.{n, v, to}
use Rattle.f77_grammar.proofs.programs.Words.{s, l, scalar, array, constant}
use Rattle.f77_grammar.proofs.programs.Least.{least}

--       PROGRAM P
--       IMPLICIT NONE
--       PARAMETER (N = 3)
--       INTEGER N, I
--       I = N
--       END
abbrev all_typed : List Labelled
all_typed =
    s 1 (Program (codes "P"))
    ∷ s 2 (ImplicitNone)
    ∷ s 3 (Constants (constant "N" (n 3) ∷ []))
    ∷ s 4 (Declare Integer (scalar "N" ∷ scalar "I" ∷ []))
    ∷ s 5 (Assign (to "I") (v "N"))
    ∷ s 6 (End)
    ∷ []

all_typed_read : findings (fortran77 Plain) (with_loop_labels all_typed) ≡ []
all_typed_read = refl

--       IMPLICIT NONE
--       I = 1
--       END
abbrev untyped_variable : List Labelled
untyped_variable =
    s 1 (ImplicitNone)
    ∷ s 2 (Assign (to "I") (n 1))
    ∷ s 3 (End)
    ∷ []

untyped_variable_refused : least (findings (fortran77 Plain) (with_loop_labels untyped_variable)) ≡ Some (refusal_at causes.Untyped 2)
untyped_variable_refused = refl

--       IMPLICIT NONE
--       PARAMETER (N = 3)
--       INTEGER I
--       I = N
--       END
abbrev untyped_constant : List Labelled
untyped_constant =
    s 1 (ImplicitNone)
    ∷ s 2 (Constants (constant "N" (n 3) ∷ []))
    ∷ s 3 (Declare Integer (scalar "I" ∷ []))
    ∷ s 4 (Assign (to "I") (v "N"))
    ∷ s 5 (End)
    ∷ []

untyped_constant_refused : least (findings (fortran77 Plain) (with_loop_labels untyped_constant)) ≡ Some (refusal_at causes.Untyped 2)
untyped_constant_refused = refl

--       IMPLICIT NONE
--       DIMENSION X(3)
--       END
abbrev untyped_array : List Labelled
untyped_array =
    s 1 (ImplicitNone)
    ∷ s 2 (Dimension (array "X" ((n 1, n 3) ∷ []) ∷ []))
    ∷ s 3 (End)
    ∷ []

untyped_array_refused : least (findings (fortran77 Plain) (with_loop_labels untyped_array)) ≡ Some (refusal_at causes.Untyped 2)
untyped_array_refused = refl

--       IMPLICIT NONE
--       DO X = 1, 3
--       END DO
--       END
abbrev untyped_do_variable : List Labelled
untyped_do_variable =
    s 1 (ImplicitNone)
    ∷ s 2 (Do None (codes "X") (n 1) (n 3) (n 1))
    ∷ s 3 (EndDo)
    ∷ s 4 (End)
    ∷ []

untyped_do_variable_refused : least (findings (fortran77 Plain) (with_loop_labels untyped_do_variable)) ≡ Some (refusal_at causes.Untyped 2)
untyped_do_variable_refused = refl

--       IMPLICIT NONE
--       X = .TRUE.
--       END
abbrev no_type_is_integer : List Labelled
no_type_is_integer =
    s 1 (ImplicitNone)
    ∷ s 2 (Assign (to "X") (Logic true))
    ∷ s 3 (End)
    ∷ []

no_type_is_integer_refused : least (findings (fortran77 Plain) (with_loop_labels no_type_is_integer)) ≡ Some (refusal_at causes.TypeClash 2)
no_type_is_integer_refused = refl

--       INTEGER I
--       X = 1
--       END
abbrev real_name : List Labelled
real_name =
    s 1 (Declare Integer (scalar "I" ∷ []))
    ∷ s 2 (Assign (to "X") (n 1))
    ∷ s 3 (End)
    ∷ []

real_name_refused : least (findings (fortran77 Plain) (with_loop_labels real_name)) ≡ Some (refusal_at causes.RealName 2)
real_name_refused = refl

--       IMPLICIT NONE
--       IMPLICIT NONE
--       END
abbrev twice : List Labelled
twice =
    s 1 (ImplicitNone)
    ∷ s 2 (ImplicitNone)
    ∷ s 3 (End)
    ∷ []

twice_refused : least (findings (fortran77 Plain) (with_loop_labels twice)) ≡ Some (refusal_at causes.Nesting 2)
twice_refused = refl

--       INTEGER I
--       IMPLICIT NONE
--       END
abbrev late : List Labelled
late =
    s 1 (Declare Integer (scalar "I" ∷ []))
    ∷ s 2 (ImplicitNone)
    ∷ s 3 (End)
    ∷ []

late_refused : least (findings (fortran77 Plain) (with_loop_labels late)) ≡ Some (refusal_at causes.Nesting 2)
late_refused = refl

--       IMPLICIT NONE
--       PROGRAM P
--       END
abbrev before_program : List Labelled
before_program =
    s 1 (ImplicitNone)
    ∷ s 2 (Program (codes "P"))
    ∷ s 3 (End)
    ∷ []

before_program_refused : least (findings (fortran77 Plain) (with_loop_labels before_program)) ≡ Some (refusal_at causes.Nesting 2)
before_program_refused = refl

--       DO 10 I = 1, 3
--    10 IMPLICIT NONE
--       END
abbrev loop_end : List Labelled
loop_end =
    s 1 (Do (Some 10) (codes "I") (n 1) (n 3) (n 1))
    ∷ l 10 2 (ImplicitNone)
    ∷ s 3 (End)
    ∷ []

loop_end_refused : least (findings (fortran77 Plain) (with_loop_labels loop_end)) ≡ Some (refusal_at causes.Nesting 2)
loop_end_refused = refl
