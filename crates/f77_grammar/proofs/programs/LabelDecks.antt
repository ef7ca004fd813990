-- Worked decks on labels. Above each text stands the deck that it is of.
use Rattle.std.proofs.Common.{◌≡◌, refl, List, [], ◌∷◌, Some}
use lib.Chars.{codes}
use Rattle.tree.specs.Plain.{Binary}
use Rattle.tree.specs.declared.ops.Op.TheVariants.{Eq}
use Rattle.meaning.specs.Dialect.{fortran77}
use Rattle.tree.specs.declared.width.Width.TheVariants.{Plain}
use Rattle.tree.specs.Causes.{refusal_at}
use Rattle.tree.specs.declared.refusals.Cause.TheVariants as causes
use Rattle.f77_grammar.specs.Statement77.{Labelled, Assign, Go, Test, Do, Continue, End}
use Rattle.f77_grammar.specs.program.Program77.{findings}
use Rattle.meaning.proofs.DeckWords.{n, v, to}
use Rattle.f77_grammar.proofs.programs.Words.{s, l}
use Rattle.f77_grammar.proofs.programs.Least.{least}

--     0 CONTINUE
--       END
abbrev label_zero : List Labelled
label_zero =
    l 0 1 (Continue)
    ∷ s 2 (End)
    ∷ []

label_zero_refused : least (findings (fortran77 Plain) label_zero) ≡ Some (refusal_at causes.Label 1)
label_zero_refused = refl

--     1 CONTINUE
--       END
abbrev label_one : List Labelled
label_one =
    l 1 1 (Continue)
    ∷ s 2 (End)
    ∷ []

label_one_read : findings (fortran77 Plain) label_one ≡ []
label_one_read = refl

--    10 CONTINUE
--       I = 1
--    10 CONTINUE
--       END
abbrev label_twice : List Labelled
label_twice =
    l 10 1 (Continue)
    ∷ s 2 (Assign (to "I") (n 1))
    ∷ l 10 3 (Continue)
    ∷ s 4 (End)
    ∷ []

label_twice_refused : least (findings (fortran77 Plain) label_twice) ≡ Some (refusal_at causes.Label 3)
label_twice_refused = refl

--    10 CONTINUE
--       I = 1
--    20 CONTINUE
--       END
abbrev labels_differ : List Labelled
labels_differ =
    l 10 1 (Continue)
    ∷ s 2 (Assign (to "I") (n 1))
    ∷ l 20 3 (Continue)
    ∷ s 4 (End)
    ∷ []

labels_differ_read : findings (fortran77 Plain) labels_differ ≡ []
labels_differ_read = refl

--       I = 1
--       GO TO 10
--       END
abbrev go_to_nowhere : List Labelled
go_to_nowhere =
    s 1 (Assign (to "I") (n 1))
    ∷ s 2 (Go 10)
    ∷ s 3 (End)
    ∷ []

go_to_nowhere_refused : least (findings (fortran77 Plain) go_to_nowhere) ≡ Some (refusal_at causes.Label 2)
go_to_nowhere_refused = refl

--       I = 1
--       GO TO 10
--    10 END
abbrev go_to_end : List Labelled
go_to_end =
    s 1 (Assign (to "I") (n 1))
    ∷ s 2 (Go 10)
    ∷ l 10 3 (End)
    ∷ []

go_to_end_read : findings (fortran77 Plain) go_to_end ≡ []
go_to_end_read = refl

--       IF (I .EQ. 1) GO TO 10
--    20 END
abbrev inner_go_to_nowhere : List Labelled
inner_go_to_nowhere =
    s 1 (Test (Binary Eq (v "I") (n 1)) (Go 10))
    ∷ l 20 2 (End)
    ∷ []

inner_go_to_nowhere_refused : least (findings (fortran77 Plain) inner_go_to_nowhere) ≡ Some (refusal_at causes.Label 1)
inner_go_to_nowhere_refused = refl

--       GO TO 0
--       END
abbrev go_to_zero : List Labelled
go_to_zero =
    s 1 (Go 0)
    ∷ s 2 (End)
    ∷ []

go_to_zero_refused : least (findings (fortran77 Plain) go_to_zero) ≡ Some (refusal_at causes.Label 1)
go_to_zero_refused = refl

--       DO 10 I = 1, 3
--    20 CONTINUE
--       END
abbrev do_label_nowhere : List Labelled
do_label_nowhere =
    s 1 (Do (Some 10) (codes "I") (n 1) (n 3) (n 1))
    ∷ l 20 2 (Continue)
    ∷ s 3 (End)
    ∷ []

do_label_nowhere_refused : least (findings (fortran77 Plain) do_label_nowhere) ≡ Some (refusal_at causes.Label 1)
do_label_nowhere_refused = refl
