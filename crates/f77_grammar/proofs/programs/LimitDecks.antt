-- Worked decks on the limits of a program. Above each text stands the deck that it is of.
use Rattle.std.proofs.Common.{◌≡◌, refl, List, [], ◌∷◌, Some}
use Rattle.tree.specs.Plain.{Unary, Binary}
use Rattle.tree.specs.declared.ops.Op.TheVariants.{Div, Neg}
use Rattle.tree.specs.declared.ops.Kind.TheVariants.{Integer}
use Rattle.meaning.specs.Dialect.{fortran77}
use Rattle.tree.specs.declared.width.Width.TheVariants.{Plain}
use Rattle.tree.specs.Causes.{refusal_at}
use Rattle.tree.specs.declared.refusals.Cause.TheVariants as causes
use Rattle.f77_grammar.specs.Statement77.{Labelled, Declare, Constants, End}
use Rattle.f77_grammar.specs.program.Program77.{findings}
use Rattle.meaning.proofs.DeckWords.{n}
use Rattle.f77_grammar.proofs.programs.Words.{s, array, constant}
use Rattle.f77_grammar.proofs.programs.Least.{least}

--       INTEGER A(3:2)
--       END
abbrev bounds_turned : List Labelled
bounds_turned =
    s 1 (Declare Integer (array "A" ((n 3, n 2) ∷ []) ∷ []))
    ∷ s 2 (End)
    ∷ []

bounds_turned_refused : least (findings (fortran77 Plain) bounds_turned) ≡ Some (refusal_at causes.ReversedBounds 1)
bounds_turned_refused = refl

--       INTEGER A(2:2)
--       END
abbrev bounds_equal : List Labelled
bounds_equal =
    s 1 (Declare Integer (array "A" ((n 2, n 2) ∷ []) ∷ []))
    ∷ s 2 (End)
    ∷ []

bounds_equal_read : findings (fortran77 Plain) bounds_equal ≡ []
bounds_equal_read = refl

--       INTEGER A(2048,2048)
--       INTEGER B(1)
--       END
abbrev many_elements : List Labelled
many_elements =
    s 1 (Declare Integer (array "A" ((n 1, n 2048) ∷ (n 1, n 2048) ∷ []) ∷ []))
    ∷ s 2 (Declare Integer (array "B" ((n 1, n 1) ∷ []) ∷ []))
    ∷ s 3 (End)
    ∷ []

many_elements_refused : least (findings (fortran77 Plain) many_elements) ≡ Some (refusal_at causes.ManyElements 2)
many_elements_refused = refl

--       INTEGER A(2048,2048)
--       END
abbrev as_many_elements : List Labelled
as_many_elements =
    s 1 (Declare Integer (array "A" ((n 1, n 2048) ∷ (n 1, n 2048) ∷ []) ∷ []))
    ∷ s 2 (End)
    ∷ []

as_many_elements_read : findings (fortran77 Plain) as_many_elements ≡ []
as_many_elements_read = refl

--       PARAMETER (N = 1 / 0)
--       END
abbrev constant_divided_by_zero : List Labelled
constant_divided_by_zero =
    s 1 (Constants (constant "N" (Binary Div (n 1) (n 0)) ∷ []))
    ∷ s 2 (End)
    ∷ []

constant_divided_by_zero_refused : least (findings (fortran77 Plain) constant_divided_by_zero) ≡ Some (refusal_at causes.BadConstant 1)
constant_divided_by_zero_refused = refl

--       PARAMETER (N = 2147483648)
--       END
abbrev constant_past_range : List Labelled
constant_past_range =
    s 1 (Constants (constant "N" (n 2147483648) ∷ []))
    ∷ s 2 (End)
    ∷ []

constant_past_range_refused : least (findings (fortran77 Plain) constant_past_range) ≡ Some (refusal_at causes.BadConstant 1)
constant_past_range_refused = refl

--       PARAMETER (N = 2147483647)
--       END
abbrev constant_at_range : List Labelled
constant_at_range =
    s 1 (Constants (constant "N" (n 2147483647) ∷ []))
    ∷ s 2 (End)
    ∷ []

constant_at_range_read : findings (fortran77 Plain) constant_at_range ≡ []
constant_at_range_read = refl

--       INTEGER A(2147483648:2147483648)
--       END
abbrev bound_past_range : List Labelled
bound_past_range =
    s 1 (Declare Integer (array "A" ((n 2147483648, n 2147483648) ∷ []) ∷ []))
    ∷ s 2 (End)
    ∷ []

bound_past_range_refused : least (findings (fortran77 Plain) bound_past_range) ≡ Some (refusal_at causes.BadConstant 1)
bound_past_range_refused = refl

--       INTEGER A(-2147483649:1)
--       END
abbrev bound_below_range : List Labelled
bound_below_range =
    s 1 (Declare Integer (array "A" ((Unary Neg (n 2147483649), n 1) ∷ []) ∷ []))
    ∷ s 2 (End)
    ∷ []

bound_below_range_refused : least (findings (fortran77 Plain) bound_below_range) ≡ Some (refusal_at causes.ManyElements 1)
bound_below_range_refused = refl
